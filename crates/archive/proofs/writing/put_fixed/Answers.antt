-- `archive::writing::put_fixed` meets its contract: the sixteen bytes stand at the front. Assumes nothing.
use Rattle.archive_spec.specs.File.{fixed}
use Rattle.archive_spec.specs.Steps.{placed}
use Rattle.archive.proofs.writing.put_fixed.Goals as goal

pub returns : goal.returns
unfolding placed fixed
returns c = rw c.copy_from_slice.ensures.after
