-- Each public contract has one answer: two runs that meet it at one entry answer the same and leave the same bytes. `Post` is the contract's own
-- `ensures`, so a weaker contract would not
-- pass here. Assumes nothing.
use mathlib.Core.Path.{◌≡◌}
use Prim.Native.Nat.{ℕ}
use mathlib.Core.List.{List}
use Rattle.prelude.proofs.Common.{only}
use Rattle.answer.proofs.Results.{same_numbers, only_result}
use Rattle.capture.proofs.information.Reads as information
use Rattle.capture.proofs.information_answer.Reads as information-answer
use Rattle.capture.proofs.code.Reads as code
use Rattle.capture.proofs.read.Reads as read
use Rattle.capture.proofs.edit.Reads as edit

-- x and y are the two parts
pub one_information : (κs : _) (a : _) (x y : _) (s t : _) → information.Post κs a x s → information.Post κs a y t → x.now ≡ y.now
one_information κs a x y s t p q = only p q

pub one_information_answer : (κs : _) (a : _) (x y : _) (s t : _) → information-answer.Post κs a x s → information-answer.Post κs a y t → x ≡ y
one_information_answer κs a x y s t p q = same_numbers (only p q)

-- x and y are the two answers; s and t are the two states at exit, whose part 4 is `capture`
pub one_code : (κs : _) (a : _) (x y : _) (s t : _) → code.Post κs a x s → code.Post κs a y t → (x ≡ y) × (s.1.1.1.1.0.now ≡ t.1.1.1.1.0.now)
one_code κs a x y s t p q = only_result p q

-- parts 3 and 4 at exit are `info` and `parity`
pub one_read : (κs : _) (a : _) (x y : _) (s t : _) → read.Post κs a x s → read.Post κs a y t
    → (x ≡ y) × ◌≡◌ {A = List ℕ × List ℕ} (s.1.1.1.0.now, s.1.1.1.1.0.now) (t.1.1.1.0.now, t.1.1.1.1.0.now)
one_read κs a x y s t p q = only_result p q

-- parts 4 and 5 at exit are `capture` and `list`
pub one_edit : (κs : _) (a : _) (x y : _) (s t : _) → edit.Post κs a x s → edit.Post κs a y t
    → (x ≡ y) × ◌≡◌ {A = List ℕ × List ℕ} (s.1.1.1.1.0.now, s.1.1.1.1.1.0.now) (t.1.1.1.1.0.now, t.1.1.1.1.1.0.now)
one_edit κs a x y s t p q = only_result p q
