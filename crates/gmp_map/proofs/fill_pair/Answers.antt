-- `gmp_map::fill_pair` meets its contract: byte by byte. Assumes nothing.
use Rattle.prelude.proofs.LoopLaws.{loops}
use Rattle.gmp_map.proofs.fill_pair.Goals as goal

pub loop-k-init : goal.loop-k-init
loop-k-init c = search loops

pub loop-k-preserved : goal.loop-k-preserved
loop-k-preserved c = search loops
