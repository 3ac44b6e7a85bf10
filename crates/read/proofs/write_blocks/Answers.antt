-- `read::write_blocks` meets its contract: a block a turn. Assumes nothing.
use lib.ListN.{length, take, drop}
use Rattle.prelude.specs.Lists.{from_index}
use Rattle.bits.specs.Bits.{bit_at, byte_of}
use Rattle.sizes.specs.Sizes.{fec_bits, info_bytes, parity_bytes, parity_from, super_info_bytes, super_parity_bytes}
use Rattle.read_spec.proofs.Places.{info_byte, parity_byte, bytes_filled}
use Prim.Native.Nat.{◌+◌, ◌-◌, ◌*◌}
use native.Mathlib.Omega.{arith}
use Rattle.prelude.proofs.Lists.{filled_none, filled_all, part_long}
use borrow.Author.Rules.{rules}
use Rattle.read.proofs.write_blocks.Goals as goal

pub loop-b-init : goal.loop-b-init
loop-b-init c = (filled_none, filled_none, omega arith)

pub loop-b-preserved : goal.loop-b-preserved
loop-b-preserved c = let h = c.loop-b in
    let s = c.args.s.now in
    let i = info_bytes * h.b in
    let p = parity_bytes * h.b in
    let ki = i + info_bytes - i in
    let kp = p + parity_bytes - p in (
      bytes_filled ki (info_bytes * (h.b + 1)) (length (take ki (drop i h.info))) (byte_of (from_index (bit_at s) (fec_bits * h.b)))
          h.invariant.0 (omega arith) (omega arith) (part_long i ki h.info (omega arith)) c.copy.ensures (λ j l. info_byte s h.b j (omega arith)),
      bytes_filled kp (parity_bytes * (h.b + 1)) (length (take kp (drop p h.parity))) (byte_of (from_index (bit_at s) (fec_bits * h.b + parity_from)))
          h.invariant.1 (omega arith) (omega arith) (part_long p kp h.parity (omega arith)) c.copy-in-loop-b.ensures
          (λ j l. parity_byte s h.b j (omega arith)),
      omega arith,
    )

pub returns : goal.returns
returns c = let i = c.loop-b.invariant in
    (filled_all super_info_bytes i.0 (omega arith) (search rules), filled_all super_parity_bytes i.1 (omega arith) (search rules))
