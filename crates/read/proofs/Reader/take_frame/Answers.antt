-- `read::Reader::take_frame` meets its contract. Assumes nothing.
use mathlib.Core.Path.{◌∙◌}
use Rattle.read_spec.proofs.Blocks.{frame_more}
use Rattle.read_spec.proofs.Searching.{sought_by}
use Rattle.read.proofs.Reader.take_frame.Goals as goal

pub returns : goal.returns
returns c = let a = c.args in
    let y = c.take_blocks-y in
    frame_more a.self.now.m0 a.self.now.capture.now _ a.f a.x y.result c.or.result c.frame.ensures c.requires.1 y.ensures
    (c.or.ensures ∙ sought_by y.result.pad a.f c.then_some.ensures c.is_pad_off.ensures)
