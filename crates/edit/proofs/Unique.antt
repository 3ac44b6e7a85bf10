-- The contract of `edit` has one answer: two runs that meet it at one entry answer the same and leave the same capture and the same list.
-- `Post` is the contract's own `ensures`, so a weaker contract would not pass here. Assumes nothing.
use Prim.Native.Nat.{ℕ}
use mathlib.Core.List.{List}
use mathlib.Core.Path.{◌≡◌}
use Rattle.answer.proofs.Results.{only_result}
use Rattle.edit.proofs.edit.Reads as edit

-- x and y are the two answers; s and t are the two states at exit, whose parts 4 and 5 are `capture` and `list`
pub one_edit : (κs : _) (a : _) (x y : _) (s t : _) → edit.Post κs a x s → edit.Post κs a y t
    → (x ≡ y) × ◌≡◌ {A = List ℕ × List ℕ} (s.1.1.1.1.0.now, s.1.1.1.1.1.0.now) (t.1.1.1.1.0.now, t.1.1.1.1.1.0.now)
one_edit κs a x y s t p q = only_result p q
