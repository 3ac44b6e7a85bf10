-- `code::tail_element` meets its contract. Assumes nothing.
use Rattle.prelude.proofs.Lists.{Filled}
use Rattle.prelude.specs.Lists.{from_index}
use Rattle.bits.specs.Bits.{bit_at, byte_of}
use Rattle.code.specs.Steps.{tail_bit}
use Rattle.code.proofs.tail_element.Given as goal

abbrev pub invariant-loop-k : goal.invariant-loop-k
invariant-loop-k l = Filled l.k (byte_of (tail_bit l.crc l.mbas (from_index (bit_at l.parity) l.at))) l.initial.byte-items l.byte-items
