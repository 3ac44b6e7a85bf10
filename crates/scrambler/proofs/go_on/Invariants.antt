-- `go_on` meets its contract: what is filled reaches far enough back for the sum of four. Assumes nothing.
use Prim.Native.Nat.{◌*◌, ◌≤◌}
use Rattle.bits.specs.Bits.{byte_of}
use Rattle.prelude.proofs.Lists.{Filled}
use Rattle.scrambler.specs.Scrambler.{o}
use Rattle.scrambler.proofs.go_on.Given as goal

abbrev pub invariant-loop-k : goal.invariant-loop-k
invariant-loop-k l = (16 * l.s ≤ l.k) × (l.k ≤ l.m) × Filled l.k (byte_of o) l.initial.out l.out
