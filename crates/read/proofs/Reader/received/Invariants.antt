-- `read::Reader::received` meets its contract: before element l the bytes that begin in the elements before it are there. Assumes nothing.
use Prim.Native.Nat.{◌+◌, ◌*◌, ◌≤◌}
use mathlib.Core.Path.{◌≡◌}
use Rattle.bits.specs.Bits.{byte_of}
use Rattle.prelude.proofs.Lists.{Filled}
use Rattle.sizes.specs.Sizes.{super_elements}
use Rattle.line.specs.Slots.{slot_of}
use Rattle.read_spec.specs.Read.{repaired}
use Rattle.read_spec.specs.Steps.{received_in, first_whole_byte}
use Rattle.read.proofs.Reader.received.Given as goal

abbrev pub invariant-loop-l : goal.invariant-loop-l
invariant-loop-l l = Filled (first_whole_byte l.l) (byte_of (received_in (repaired l.self.capture.now) l.f)) l.initial.out l.out
    × (l.here ≡ repaired l.self.capture.now (slot_of (super_elements * l.f + l.l))) × (l.l ≤ super_elements)
