-- `read::Reader::tally_frames` meets its contract. Assumes nothing.
use mathlib.Core.Path.{ap, ◌∙◌}
use native.Mathlib.Omega.{arith}
use Rattle.read_spec.specs.Steps.{frames_to}
use Rattle.read_spec.proofs.Blocks.{frames_none}
use borrow.Author.Rules.{rules}
use Rattle.read.proofs.Reader.tally_frames.Goals as goal

pub loop-f-init : goal.loop-f-init
loop-f-init c = (frames_none _ _, omega arith)

pub returns : goal.returns
returns c = let l = c.loop-f in
    let a = c.args in
    l.invariant.0 ∙ ap (frames_to a.self.now.m0 a.self.now.capture.now) (omega arith)
