-- `gmp_count::line_length` meets its contract: no byte that it has passed is a line feed. Assumes nothing.
use Rattle.prelude.proofs.LoopLaws.{loops}
use Rattle.gmp_count.specs.Count.{first_length}
use Rattle.gmp_count.proofs.line_length.Goals as goal

pub loop-i-init : goal.loop-i-init
loop-i-init c = search loops

pub loop-i-preserved : goal.loop-i-preserved
loop-i-preserved c = search loops

pub returns-then-b-eq10 : goal.returns-then-b-eq10
unfolding first_length
returns-then-b-eq10 c = search loops

pub returns : goal.returns
unfolding first_length
returns c = search loops
