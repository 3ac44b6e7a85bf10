-- `hamming_matrix::position_table` meets its contract: the rule of the whole table, computed by antt once. Assumes nothing.
use mathlib.Core.Path.{refl}
use Rattle.prelude.specs.Lists.{tabulate}
use Rattle.hamming_matrix.specs.Columns.{columns, place_in, position_of}
use Rattle.hamming_matrix.proofs.position_table.Goals as goal

pub returns : goal.returns
unfolding tabulate position_of place_in columns
returns c = refl
