-- `remainder` meets its contract: the bytes are folded in. Assumes nothing.
use Prim.Native.Nat.{◌≤◌}
use lib.ListN.{length}
use Rattle.prelude.proofs.LoopLaws.{Folded}
use Rattle.crc.specs.Crc.{width}
use Rattle.crc.specs.Steps.{byte_step}
use Rattle.crc.proofs.remainder.Given as goal

abbrev pub invariant-loop-x : goal.invariant-loop-x
invariant-loop-x l = (l.x-index ≤ length l.s) × Folded (byte_step width l.t l.s) l.start l.x-index l.r
