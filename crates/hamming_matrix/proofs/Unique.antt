-- Each public contract has one answer: two results that meet it are the same. `Post` is the contract's own `ensures`, so a weaker contract would not
-- pass here. Assumes nothing.
use mathlib.Core.Path.{◌≡◌}
use Rattle.prelude.proofs.Common.{only}
use Rattle.hamming_matrix.proofs.column_table.Reads as column-table
use Rattle.hamming_matrix.proofs.tail_table.Reads as tail-table
use Rattle.hamming_matrix.proofs.position_table.Reads as position-table

pub one_column_table : (κs : _) (a : _) (x y : _) (s t : _) → column-table.Post κs a x s → column-table.Post κs a y t → x ≡ y
one_column_table κs a x y s t p q = only p q

pub one_tail_table : (κs : _) (a : _) (x y : _) (s t : _) → tail-table.Post κs a x s → tail-table.Post κs a y t → x ≡ y
one_tail_table κs a x y s t p q = only p q

pub one_position_table : (κs : _) (a : _) (x y : _) (s t : _) → position-table.Post κs a x s → position-table.Post κs a y t → x ≡ y
one_position_table κs a x y s t p q = only p q
