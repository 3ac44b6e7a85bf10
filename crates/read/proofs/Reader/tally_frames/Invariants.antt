-- `read::Reader::tally_frames` meets its contract. Assumes nothing.
use Prim.Native.Nat.{◌≤◌}
use mathlib.Core.Path.{◌≡◌}
use lib.ListN.{length}
use Rattle.sizes.specs.Sizes.{super_bytes}
use Rattle.read_spec.specs.Steps.{frames_to}
use Rattle.read.proofs.Reader.tally_frames.Given as goal

abbrev pub invariant-loop-f : goal.invariant-loop-f
invariant-loop-f l = (l.x ≡ frames_to l.self.m0 l.self.capture.now l.f) × (l.f ≤ l.self.n)
