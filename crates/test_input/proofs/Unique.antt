-- Each public contract has one answer: two outcomes that meet it are the same. `Post` is the contract's own `ensures`, so a weaker contract would not
-- pass here. Assumes nothing.
use mathlib.Core.Path.{◌≡◌}
use Rattle.prelude.proofs.Common.{only}
use Rattle.answer.proofs.Results.{only_result}
use Rattle.test_input.proofs.first_number.Reads as first-number
use Rattle.test_input.proofs.fill.Reads as fill
use Rattle.test_input.proofs.fill_room.Reads as fill-room
use Rattle.test_input.proofs.code_room.Reads as code-room
use Rattle.test_input.proofs.code.Reads as code

pub one_first_number : (κs : _) (a : _) (x y : _) (s t : _) → first-number.Post κs a x s → first-number.Post κs a y t → x ≡ y
one_first_number κs a x y s t p q = only p q

-- what is left in `out`, and in `room`
pub one_fill : (κs : _) (a : _) (x y : _) (s t : _) → fill.Post κs a x s → fill.Post κs a y t → s.1.0.now ≡ t.1.0.now
one_fill κs a x y s t p q = only p q

pub one_fill_room : (κs : _) (a : _) (x y : _) (s t : _) → fill-room.Post κs a x s → fill-room.Post κs a y t → s.1.0.now ≡ t.1.0.now
one_fill_room κs a x y s t p q = only p q

-- the answer, and what is left in the capture
pub one_code_room : (κs : _) (a : _) (x y : _) (s t : _) → code-room.Post κs a x s → code-room.Post κs a y t
    → (x ≡ y) × (s.1.1.0.now ≡ t.1.1.0.now)
one_code_room κs a x y s t p q = only_result p q

pub one_code : (κs : _) (a : _) (x y : _) (s t : _) → code.Post κs a x s → code.Post κs a y t → (x ≡ y) × (s.1.0.now ≡ t.1.0.now)
one_code κs a x y s t p q = only_result p q
