-- `hamming::tail` meets its contract: an entry of the table (`entry_is`). Assumes nothing.
use Rattle.sizes.specs.Sizes.{check_values}
use Rattle.hamming_matrix.specs.Sums.{tail_of}
use Rattle.hamming.proofs.ByBytes.{entry_is}
use Rattle.hamming.proofs.tail.Goals as goal

pub returns : goal.returns
returns c = entry_is tail_of check_values c.tail_table-tails.result c.from.result c.args.c c.tail_table-tails.ensures c.from.ensures c.requires
