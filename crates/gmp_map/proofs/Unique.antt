-- Each public contract has one answer: two runs that meet it at one entry return the same and leave the same bytes in the lent buffer. `Post` is the
-- contract's own `ensures`, so a weaker contract would not pass here. Assumes nothing.
use mathlib.Core.Path.{◌≡◌}
use Rattle.answer.proofs.Results.{only_result}
use Rattle.gmp_map.proofs.map.Reads as map
use Rattle.gmp_map.proofs.unmap.Reads as unmap

-- s and t are the two states at exit; their last part is what is left in `window`, or in `groups`
pub one_map : (κs : _) (a : _) (x y : _) (s t : _) → map.Post κs a x s → map.Post κs a y t → (x ≡ y) × (s.1.1.1.1.0.now ≡ t.1.1.1.1.0.now)
one_map κs a x y s t p q = only_result p q

pub one_unmap : (κs : _) (a : _) (x y : _) (s t : _) → unmap.Post κs a x s → unmap.Post κs a y t
    → (x ≡ y) × (s.1.1.1.1.0.now ≡ t.1.1.1.1.0.now)
one_unmap κs a x y s t p q = only_result p q
