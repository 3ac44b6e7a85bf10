-- `hamming_matrix::tail_table` meets its contract: the rule of the whole table, computed by antt once. Assumes nothing.
use mathlib.Core.Path.{refl}
use Rattle.prelude.specs.Lists.{tabulate}
use Rattle.bits.specs.Bits.{digit}
use Rattle.hamming_matrix.specs.Columns.{columns, column_of, place_in}
use Rattle.hamming_matrix.specs.Sums.{sum_to, column_taken, tail_sum, tail_sums, tail_of}
use Rattle.hamming_matrix.proofs.tail_table.Goals as goal

pub returns : goal.returns
unfolding tabulate tail_of tail_sums tail_sum sum_to column_taken digit place_in column_of columns
returns c = refl
