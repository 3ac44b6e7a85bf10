-- The contract of `read` has one answer: two runs that meet it at one entry answer the same and leave the same bytes in both buffers.
-- `Post` is the contract's own `ensures`, so a weaker contract would not pass here. Assumes nothing.
use Prim.Native.Nat.{ℕ}
use mathlib.Core.List.{List}
use mathlib.Core.Path.{◌≡◌}
use Rattle.answer.proofs.Results.{only_result}
use Rattle.read.proofs.read.Reads as read

-- x and y are the two answers; s and t are the two states at exit, whose parts 3 and 4 are `info` and `parity`
pub one_read : (κs : _) (a : _) (x y : _) (s t : _) → read.Post κs a x s → read.Post κs a y t
    → (x ≡ y) × ◌≡◌ {A = List ℕ × List ℕ} (s.1.1.1.0.now, s.1.1.1.1.0.now) (t.1.1.1.0.now, t.1.1.1.1.0.now)
one_read κs a x y s t p q = only_result p q
