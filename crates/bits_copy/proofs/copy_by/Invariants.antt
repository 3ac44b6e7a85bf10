-- `bits_copy::copy_by` meets its contract: a byte a turn. Assumes nothing.
use Rattle.prelude.specs.Lists.{from_index}
use Rattle.bits.specs.Bits.{bit_at, byte_of}
use Rattle.prelude.proofs.Lists.{Filled}
use Rattle.bits_copy.proofs.copy_by.Given as goal

abbrev pub invariant-loop-k : goal.invariant-loop-k
invariant-loop-k g l = Filled l.k (byte_of (from_index (bit_at l.s) l.i)) l.initial.out l.out
