-- `bits_copy::sum` meets its contract. Assumes nothing.
use Rattle.bits.specs.Bits.{bit_at, byte_of, added}
use Rattle.prelude.proofs.Lists.{Filled}
use Rattle.bits_copy.proofs.sum.Given as goal

abbrev pub invariant-loop-k : goal.invariant-loop-k
invariant-loop-k l = Filled l.k (byte_of (added (bit_at l.a) (bit_at l.b))) l.initial.x-items l.x-items
