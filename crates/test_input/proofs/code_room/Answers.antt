-- `test_input::code_room` meets its contract: a room that is too short, and one that is coded. Assumes nothing.
use mathlib.Core.Path.{refl}
use Rattle.test_input.proofs.Rooms.{room_short, room_coded}
use Rattle.test_input.proofs.code_room.Goals as goal

pub returns-then-room-b : goal.returns-then-room-b
returns-then-room-b c = let a = c.args in
    room_short a.n _ a.room.now a.capture.now (rw (c.information-a.ensures.is, c.parity.ensures.is) refl) c.if-room-b.true
    (rw (c.at.ensures, c.buffer_place.ensures) refl)

pub returns : goal.returns
returns c = let o = c.code.ensures in
    let a = c.args in
    room_coded a.n _ _ _ a.room.now a.capture.now c.information-a.ensures.is (rw c.parity.ensures.is refl) c.if-room-b.false
    c.first_number.ensures o
