-- `test_input::code` meets its contract: the room is filled, and coded. Assumes nothing.

use Rattle.test_input.proofs.code.Goals as goal

pub returns : goal.returns
returns c = let o = c.code_room.ensures in
    rw (c.fill_room.ensures, ← c.large_space-room.ensures.room) at o
