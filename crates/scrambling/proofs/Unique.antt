-- Each public contract has one answer: two outcomes that meet it are the same. `Post` is the contract's own `ensures`, so a weaker contract would not
-- pass here. Assumes nothing.
use mathlib.Core.Path.{◌≡◌}
use Rattle.prelude.proofs.Common.{only}
use Rattle.scrambling.proofs.add.Reads as add
use Rattle.scrambling.proofs.element.Reads as element

-- what is left in `out`
pub one_add : (κs : _) (a : _) (x y : _) (s t : _) → add.Post κs a x s → add.Post κs a y t → s.1.1.0.now ≡ t.1.1.0.now
one_add κs a x y s t p q = only p q

pub one_element : (κs : _) (a : _) (x y : _) (s t : _) → element.Post κs a x s → element.Post κs a y t → x ≡ y
one_element κs a x y s t p q = only p q
