-- `hamming_matrix::column_table` meets its contract: antt computes H and compares it with the table of the code. Assumes nothing.
use mathlib.Core.Path.{refl}
use Rattle.hamming_matrix.specs.Columns.{columns}
use Rattle.hamming_matrix.proofs.column_table.Goals as goal

pub returns : goal.returns
unfolding columns
returns c = refl
