-- The contract of `number_of` has one answer. `Post` is the contract's own `ensures`, so a weaker contract would not pass here. Assumes nothing.
use mathlib.Core.Path.{◌≡◌}
use Rattle.prelude.proofs.Common.{only}
use Rattle.zr_argument.proofs.number_of.Reads as number_of_lem

pub one_number_of : (κs : _) (a : _) (x y : _) (s t : _) → number_of_lem.Post κs a x s → number_of_lem.Post κs a y t → x ≡ y
one_number_of κs a x y s t p q = only p q
