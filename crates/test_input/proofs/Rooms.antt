-- A room that is too short, and one that is coded, as its slices are cut. Assumes nothing.
use Prim.Native.Nat.{ℕ, ◌+◌, ◌-◌, ◌≤◌, ◌<◌}
use mathlib.Core.Bool.{false, true}
use mathlib.Core.Path.{◌≡◌, refl}
use mathlib.Core.List.{List}
use native.Mathlib.Omega.{arith}
use borrow.Author.Tests.{lt-ltb, le-ltb}
use lib.ListN.{length, take, drop}
use Rattle.answer.specs.Numbers.{wrong_length}
use Rattle.answer.specs.Rows.{refused, buffer_place}
use Rattle.answer.specs.Outcomes.{Outcome}
use Rattle.answer.specs.declared.Answer.{Answer}
use Rattle.code.specs.Code.{code_answer, code_leaves}
use Rattle.test_input.specs.Inputs.{first_number, info_room, parity_room, too_short, room_answer, room_leaves}

pub room_short : (n b : ℕ) (room cap : List ℕ) {r : Answer} → b ≡ info_room n + parity_room n → length room < b → r ≡ refused wrong_length (buffer_place 1)
    → Outcome (room_answer n room cap) (room_leaves n room cap) r cap
unfolding room_answer room_leaves
room_short n b room cap p h q =
    let short : too_short n room ≡ true = lt-ltb (length room) (info_room n + parity_room n) (rw p at h) in
    record { told = rw short q; kept = rw short refl }

pub room_coded : (n a b m0 : ℕ) (room cap : List ℕ) {r : Answer} {left : List ℕ} → a ≡ info_room n → b ≡ a + parity_room n → b ≤ length room → m0 ≡ first_number n
    → Outcome (code_answer n m0 (take a room) (take (b - a) (drop a room)) cap) (code_leaves n m0 (take a room) (take (b - a) (drop a room)) cap) r left
    → Outcome (room_answer n room cap) (room_leaves n room cap) r left
unfolding room_answer room_leaves
room_coded n a b m0 room cap p q h z o =
    let size : b - a ≡ parity_room n = omega arith in
    let long : too_short n room ≡ false = le-ltb (length room) (info_room n + parity_room n) (omega arith) in
    let o = rw (size, p, z) at o in
    record { told = rw long o.told; kept = rw long o.kept }
