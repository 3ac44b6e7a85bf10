-- Each public contract has one answer and one content of lent memory. `Post` is the contract's own `ensures`, so a weaker contract would not pass here.
-- Assumes nothing.
use Prim.Native.Nat.{ℕ}
use mathlib.Core.Path.{◌≡◌}
use mathlib.Core.List.{List}
use Rattle.answer.proofs.Results.{only_result}
use Rattle.prelude.proofs.Common.{only}
use Rattle.archive.proofs.kind.Kind.number.Reads as number
use Rattle.archive.proofs.kind.KindTryFromU64.try_from.Reads as try-from
use Rattle.archive.proofs.write.Reads as write
use Rattle.archive.proofs.read.Reads as read

-- x and y are the two answers; s and t are the two states at exit, whose part 3 is `head`
pub one_write : (κs : _) (a : _) (x y : _) (s t : _) → write.Post κs a x s → write.Post κs a y t → (x ≡ y) × (s.1.1.1.0.now ≡ t.1.1.1.0.now)
one_write κs a x y s t p q = only_result p q

-- parts 2, 3 and 4 at exit are `kinds`, `offsets` and `lengths`
pub one_read : (κs : _) (a : _) (x y : _) (s t : _) → read.Post κs a x s → read.Post κs a y t
    → (x ≡ y) × ◌≡◌ {A = List ℕ × (List ℕ × List ℕ)} (s.1.1.0.now, (s.1.1.1.0.now, s.1.1.1.1.0.now))
    (t.1.1.0.now, (t.1.1.1.0.now, t.1.1.1.1.0.now))
one_read κs a x y s t p q = only_result p q

pub one_number : (κs : _) (a : _) (x y : _) (s t : _) → number.Post κs a x s → number.Post κs a y t → x ≡ y
one_number κs a x y s t p q = only p q

pub one_try_from : (κs : _) (a : _) (x y : _) (s t : _) → try-from.Post κs a x s → try-from.Post κs a y t → x ≡ y
one_try_from κs a x y s t p q = only p q
