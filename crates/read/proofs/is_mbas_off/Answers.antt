-- `read::is_mbas_off` meets its contract. Assumes nothing.
use Prim.Native.Nat.{◌+◌, ◌*◌}
use Rattle.bits.specs.Bits.{bit_at}
use Rattle.bits.proofs.Numbers.{num_front}
use Rattle.bits.proofs.Packing.{bit_of_lt}
use Rattle.sizes.specs.Sizes.{fec_bits, mbas_from}
use Rattle.read_spec.specs.Steps.{mbas_off}
use Rattle.read.proofs.is_mbas_off.Goals as goal

pub returns : goal.returns
unfolding mbas_off
returns c = let a = c.args in
    let s = a.s.now in
    rw (c.byte_from.ensures, c.mbas.ensures, num_front 6 2 (bit_at s) (fec_bits * a.b + mbas_from) (bit_of_lt 8 s))
