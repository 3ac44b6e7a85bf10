-- `read::write_blocks` meets its contract: a block a turn. Assumes nothing.
use Rattle.bits.specs.Bits.{byte_of}
use Rattle.sizes.specs.Sizes.{info_bytes, parity_bytes}
use Prim.Native.Nat.{◌*◌, ◌≤◌}
use Rattle.prelude.proofs.Lists.{Filled}
use Rattle.read_spec.specs.Steps.{info_in, parity_in}
use Rattle.read.proofs.write_blocks.Given as goal

abbrev pub invariant-loop-b : goal.invariant-loop-b
invariant-loop-b l = Filled (info_bytes * l.b) (byte_of (info_in l.s)) l.initial.info l.info
    × Filled (parity_bytes * l.b) (byte_of (parity_in l.s)) l.initial.parity l.parity × (l.b ≤ 5)
