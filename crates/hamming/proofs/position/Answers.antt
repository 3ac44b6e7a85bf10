-- `hamming::position` meets its contract: an entry of the table (`entry_is`). Assumes nothing.
use Rattle.sizes.specs.Sizes.{check_values}
use Rattle.hamming_matrix.specs.Columns.{position_of}
use Rattle.hamming.proofs.ByBytes.{entry_is}
use Rattle.hamming.proofs.position.Goals as goal

pub returns : goal.returns
returns c = entry_is position_of check_values c.position_table-positions.result c.from.result c.args.c c.position_table-positions.ensures c.from.ensures c.requires
