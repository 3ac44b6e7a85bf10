-- Each public contract has one answer: two outcomes that meet it are the same. `Post` is the contract's own `ensures`, so a weaker contract would not
-- pass here. Assumes nothing.
use mathlib.Core.Path.{◌≡◌}
use Rattle.prelude.proofs.Common.{only}
use Rattle.bits_place.proofs.placed.Reads as placed
use Rattle.bits_place.proofs.under.Reads as under

pub one_placed : (κs : _) (a : _) (x y : _) (s t : _) → placed.Post κs a x s → placed.Post κs a y t → x ≡ y
one_placed κs a x y s t p q = only p q

pub one_under : (κs : _) (a : _) (x y : _) (s t : _) → under.Post κs a x s → under.Post κs a y t → x ≡ y
one_under κs a x y s t p q = only p q
