-- `read::block_crc` meets its contract. Assumes nothing.
use Prim.Native.Nat.{◌+◌, ◌*◌}
use mathlib.Core.Path.{◌∙◌}
use Rattle.prelude.specs.Lists.{from_index}
use Rattle.bits.specs.Bits.{bit_at}
use Rattle.bits.proofs.Packing.{bit_of_lt}
use Rattle.sizes.specs.Sizes.{fec_bits, info_bytes}
use Rattle.read_spec.proofs.Pieces.{crc_packed}
use Rattle.read.proofs.block_crc.Goals as goal

pub returns : goal.returns
returns c = let a = c.args in
    c.crc.ensures ∙ crc_packed a.crcs.now _ info_bytes (from_index (bit_at a.s.now) (fec_bits * a.b))
    (λ i. bit_of_lt 8 a.s.now (fec_bits * a.b + i)) c.requires.0 c.copy.ensures
