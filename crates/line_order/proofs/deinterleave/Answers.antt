-- `line_order::deinterleave` meets its contract: a word a turn. Assumes nothing.
use Rattle.prelude.proofs.LoopLaws.{loops}
use Rattle.line_order.proofs.deinterleave.Goals as goal

pub loop-w-init : goal.loop-w-init
loop-w-init c = search loops

pub loop-w-preserved : goal.loop-w-preserved
loop-w-preserved c = search loops
