-- `bits_place::behind` meets its contract: the room is filled, and the word cut out of it. Assumes nothing.
use Rattle.prelude.proofs.Lists.{Filled}
use Rattle.bits_place.specs.Steps.{room_byte}
use Rattle.bits_place.proofs.behind.Given as goal

abbrev pub invariant-loop-k : goal.invariant-loop-k
invariant-loop-k l = Filled l.k (room_byte l.field) l.initial.x-items l.x-items
