-- `bits_place::under` meets its contract: a byte a turn. Assumes nothing.
use Rattle.bits.specs.Bits.{bit_at, byte_of}
use Rattle.prelude.proofs.Lists.{Filled}
use Rattle.bits_place.specs.Steps.{masked}
use Rattle.bits_place.proofs.under.Given as goal

abbrev pub invariant-loop-k : goal.invariant-loop-k
invariant-loop-k l = Filled l.k (byte_of (masked l.a l.z l.q (bit_at l.x) (bit_at l.old))) l.initial.y-items l.y-items
