-- `bits::bit_at` meets its contract. Assumes nothing.
use Rattle.bits.specs.Bits.{bit_of, digit}
use Rattle.bits.proofs.bit_at.Goals as goal

pub returns : goal.returns
unfolding bit_of digit
returns c = rw c.byte_at.ensures
