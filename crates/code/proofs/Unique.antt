-- The contract of `code` has one answer: two runs that meet it at one entry answer the same and leave the same capture. `Post` is the contract's own
-- `ensures`, so a weaker contract would not
-- pass here. Assumes nothing.
use mathlib.Core.Path.{◌≡◌}
use Rattle.answer.proofs.Results.{only_result}
use Rattle.code.proofs.code.Reads as code

-- x and y are the two answers; s and t are the two states at exit, whose part 4 is `capture`
pub one_code : (κs : _) (a : _) (x y : _) (s t : _) → code.Post κs a x s → code.Post κs a y t → (x ≡ y) × (s.1.1.1.1.0.now ≡ t.1.1.1.1.0.now)
one_code κs a x y s t p q = only_result p q
