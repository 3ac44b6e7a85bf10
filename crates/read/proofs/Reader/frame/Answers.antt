-- `read::Reader::frame` meets its contract. Assumes nothing.
use mathlib.Core.Path.{ap, ◌∙◌}
use lib.ListN.{length}
use Rattle.bits.proofs.Packing.{length-packs}
use Rattle.sizes.specs.Sizes.{super_bytes}
use Rattle.read_spec.specs.Read.{repaired}
use Rattle.read_spec.specs.Steps.{received_in}
use Rattle.read_spec.proofs.Places.{frame_descrambled}
use Rattle.read.proofs.Reader.frame.Goals as goal

pub returns : goal.returns
returns c = let a = c.args in
    let r = c.received.ensures in
    c.add.ensures
    ∙ frame_descrambled a.self.now.capture.now a.self.now.scrambler.now _ a.f _
    (ap length r ∙ length-packs 8 super_bytes (received_in (repaired a.self.now.capture.now) a.f)) a.self.now.scrambles r
