-- `read::Reader::take_blocks` meets its contract. Assumes nothing.
use Rattle.prelude.proofs.LoopLaws.{loops}
use Rattle.read.proofs.Reader.take_blocks.Goals as goal

pub loop-b-init : goal.loop-b-init
loop-b-init c = search loops

pub loop-b-preserved : goal.loop-b-preserved
loop-b-preserved c = search loops
