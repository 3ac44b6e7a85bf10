-- Each public contract has one answer: two runs that meet it leave the same capture, or give the same word. `Post` is the contract's own `ensures`, so a
-- weaker contract would not pass here. Assumes nothing.
use mathlib.Core.Path.{◌≡◌}
use Rattle.prelude.proofs.Common.{only}
use Rattle.test_flip.proofs.flip.Reads as flip
use Rattle.test_flip.proofs.bit.Reads as bit
use Rattle.test_flip.proofs.flip_in_all.Reads as flip-in-all

-- s and t are the two states at exit; their first part is what is left in the capture
pub one_flip : (κs : _) (a : _) (x y : _) (s t : _) → flip.Post κs a x s → flip.Post κs a y t → s.0.now ≡ t.0.now
one_flip κs a x y s t p q = only p q

pub one_bit : (κs : _) (a : _) (x y : _) (s t : _) → bit.Post κs a x s → bit.Post κs a y t → x ≡ y
one_bit κs a x y s t p q = only p q

pub one_flip_in_all : (κs : _) (a : _) (x y : _) (s t : _) → flip-in-all.Post κs a x s → flip-in-all.Post κs a y t → s.0.now ≡ t.0.now
one_flip_in_all κs a x y s t p q = only p q
