-- `multiply` meets its contract: the digits of b are folded in. Assumes nothing.
use Prim.Native.Nat.{◌≤◌}
use Rattle.prelude.proofs.LoopLaws.{Folded}
use Rattle.crc.specs.Crc.{width, poly}
use Rattle.crc.specs.Steps.{product_step}
use Rattle.crc.proofs.multiply.Given as goal

abbrev pub invariant-loop-j : goal.invariant-loop-j
invariant-loop-j l = (l.j ≤ 32) × Folded (product_step width poly l.a l.b) 0 l.j l.r
