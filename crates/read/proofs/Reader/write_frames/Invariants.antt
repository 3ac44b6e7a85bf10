-- `read::Reader::write_frames` meets its contract: a super frame a turn. Assumes nothing.
use Rattle.read_spec.proofs.Places.{info_all, parity_all}
use Prim.Native.Nat.{◌*◌, ◌≤◌}
use Rattle.bits.specs.Bits.{byte_of}
use Rattle.prelude.proofs.Lists.{Filled}
use Rattle.sizes.specs.Sizes.{super_info_bytes, super_parity_bytes}
use Rattle.line.specs.Words.{fec_in}
use Rattle.read_spec.specs.Read.{repaired}
use Rattle.read.proofs.Reader.write_frames.Given as goal

abbrev pub invariant-loop-f : goal.invariant-loop-f
invariant-loop-f l = Filled (super_info_bytes * l.f)
    (byte_of (info_all (fec_in (repaired l.self.capture.now)))) l.initial.info l.info × Filled (super_parity_bytes * l.f) (byte_of (parity_all (fec_in (repaired l.self.capture.now)))) l.initial.parity l.parity
    × (l.f ≤ l.self.n)
