-- Each entry point's contract has one answer: two runs that meet it at one entry answer the same and leave the same bytes. `Post` is the contract's own
-- `ensures`, so a weaker contract would not pass here. Assumes nothing.
use mathlib.Core.Path.{◌≡◌}
use Prim.Native.Nat.{ℕ}
use mathlib.Core.List.{List}
use Rattle.prelude.proofs.Common.{only}
use Rattle.answer.proofs.Meets.{only_outcome}
use Rattle.c_abi.proofs.HostRunFromResultRunRefused.from.Reads as from
use Rattle.c_abi.proofs.zr400_run.Reads as run
use Rattle.c_abi.proofs.zr400_runs.Reads as runs
use Rattle.c_abi.proofs.zr400_map.Reads as map
use Rattle.c_abi.proofs.zr400_unmap.Reads as unmap
use Rattle.c_abi.proofs.zr400_information.Reads as information
use Rattle.c_abi.proofs.zr400_code.Reads as code
use Rattle.c_abi.proofs.zr400_read.Reads as read
use Rattle.c_abi.proofs.zr400_edit.Reads as edit
use Rattle.c_abi.proofs.zr400_archive_write.Reads as archive-write
use Rattle.c_abi.proofs.zr400_archive_read.Reads as archive-read

pub one_from : (κs : _) (a : _) (x y : _) (s t : _) → from.Post κs a x s → from.Post κs a y t → x ≡ y
one_from κs a x y s t p q = only p q

pub one_zr400_run : (κs : _) (a : _) (x y : _) (s t : _) → run.Post κs a x s → run.Post κs a y t → x ≡ y
one_zr400_run κs a x y s t p q = only p q

pub one_zr400_runs : (κs : _) (a : _) (x y : _) (s t : _) → runs.Post κs a x s → runs.Post κs a y t → x ≡ y
one_zr400_runs κs a x y s t p q = only p q

-- s and t are the two states at exit; their last part is what is left in `window`, or in `groups`
pub one_zr400_map : (κs : _) (a : _) (x y : _) (s t : _) → map.Post κs a x s → map.Post κs a y t → (x ≡ y) × (s.1.1.1.1.0.now ≡ t.1.1.1.1.0.now)
one_zr400_map κs a x y s t p q = only_outcome p q

pub one_zr400_unmap : (κs : _) (a : _) (x y : _) (s t : _) → unmap.Post κs a x s → unmap.Post κs a y t
    → (x ≡ y) × (s.1.1.1.1.0.now ≡ t.1.1.1.1.0.now)
one_zr400_unmap κs a x y s t p q = only_outcome p q

pub one_zr400_information : (κs : _) (a : _) (x y : _) (s t : _) → information.Post κs a x s → information.Post κs a y t → x ≡ y
one_zr400_information κs a x y s t p q = only p q

-- part 4 at exit is `capture`
pub one_zr400_code : (κs : _) (a : _) (x y : _) (s t : _) → code.Post κs a x s → code.Post κs a y t → (x ≡ y) × (s.1.1.1.1.0.now ≡ t.1.1.1.1.0.now)
one_zr400_code κs a x y s t p q = only_outcome p q

-- parts 3 and 4 at exit are `info` and `parity`
pub one_zr400_read : (κs : _) (a : _) (x y : _) (s t : _) → read.Post κs a x s → read.Post κs a y t
    → (x ≡ y) × ◌≡◌ {A = List ℕ × List ℕ} (s.1.1.1.0.now, s.1.1.1.1.0.now) (t.1.1.1.0.now, t.1.1.1.1.0.now)
one_zr400_read κs a x y s t p q = only_outcome p q

-- parts 4 and 5 at exit are `capture` and `list`
pub one_zr400_edit : (κs : _) (a : _) (x y : _) (s t : _) → edit.Post κs a x s → edit.Post κs a y t
    → (x ≡ y) × ◌≡◌ {A = List ℕ × List ℕ} (s.1.1.1.1.0.now, s.1.1.1.1.1.0.now) (t.1.1.1.1.0.now, t.1.1.1.1.1.0.now)
one_zr400_edit κs a x y s t p q = only_outcome p q

-- part 3 at exit is `head`
pub one_zr400_archive_write : (κs : _) (a : _) (x y : _) (s t : _) → archive-write.Post κs a x s → archive-write.Post κs a y t
    → (x ≡ y) × (s.1.1.1.0.now ≡ t.1.1.1.0.now)
one_zr400_archive_write κs a x y s t p q = only_outcome p q

-- parts 2, 3 and 4 at exit are `kinds`, `offsets` and `lengths`
pub one_zr400_archive_read : (κs : _) (a : _) (x y : _) (s t : _) → archive-read.Post κs a x s → archive-read.Post κs a y t
    → (x ≡ y) × ◌≡◌ {A = List ℕ × (List ℕ × List ℕ)} (s.1.1.0.now, (s.1.1.1.0.now, s.1.1.1.1.0.now))
    (t.1.1.0.now, (t.1.1.1.0.now, t.1.1.1.1.0.now))
one_zr400_archive_read κs a x y s t p q = only_outcome p q
