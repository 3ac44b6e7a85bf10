-- `table` meets its contract: entry b is what the byte b leaves. Assumes nothing.
use Rattle.prelude.proofs.LoopLaws.{loops}
use Rattle.crc.proofs.table.Goals as goal

pub loop-b-init : goal.loop-b-init
loop-b-init c = search loops

pub loop-b-preserved : goal.loop-b-preserved
loop-b-preserved c = search loops
