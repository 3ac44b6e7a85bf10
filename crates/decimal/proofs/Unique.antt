-- The contract of `next_value` has one answer. `Post` is the contract's own `ensures`, so a weaker contract would not pass here. Assumes nothing.
use mathlib.Core.Path.{◌≡◌}
use Rattle.prelude.proofs.Common.{only}
use Rattle.decimal.proofs.next_value.Reads as next-value

pub one_next_value : (κs : _) (a : _) (x y : _) (s t : _) → next-value.Post κs a x s → next-value.Post κs a y t → x ≡ y
one_next_value κs a x y s t p q = only p q
