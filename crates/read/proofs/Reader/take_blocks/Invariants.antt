-- `read::Reader::take_blocks` meets its contract. Assumes nothing.
use Prim.Native.Nat.{◌≤◌}
use Rattle.prelude.proofs.LoopLaws.{Folded}
use Rattle.read_spec.specs.Steps.{block_taken}
use Rattle.read.proofs.Reader.take_blocks.Given as goal

abbrev pub invariant-loop-b : goal.invariant-loop-b
invariant-loop-b l = Folded (block_taken l.self.m0 l.s l.f) l.initial.y l.b l.y × (l.b ≤ 5)
