-- `archive::writing::put_entry` meets its contract: three numbers. Assumes nothing.
use Rattle.archive_spec.proofs.Placing.{entry_placed}
use Rattle.archive.proofs.writing.put_entry.Goals as goal

pub returns : goal.returns
returns c = search entry_placed
