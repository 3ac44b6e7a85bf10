-- `scrambling::add_by` meets its contract: a byte a turn. Assumes nothing.
use Rattle.prelude.specs.Lists.{from_index}
use Rattle.bits.specs.Bits.{bit_at}
use Rattle.prelude.proofs.Lists.{Filled}
use Rattle.scrambling.specs.Steps.{added_byte}
use Rattle.scrambling.proofs.add_by.Given as goal

abbrev pub invariant-loop-k : goal.invariant-loop-k
invariant-loop-k g l = Filled l.k (added_byte l.initial.out (from_index (bit_at l.sequence) l.at)) l.initial.out l.out
