-- `code::Coder::group` meets its contract. Assumes nothing.
use native.Mathlib.Omega.{arith}
use Rattle.prelude.proofs.Lists.{filled_more, filled_all}
use Rattle.prelude.proofs.LoopLaws.{loops}
use Rattle.code.proofs.Coder.group.Goals as goal

pub loop-j-preserved : goal.loop-j-preserved
loop-j-preserved c = filled_more c.loop-j.invariant c.loop-j-test.true c.word.ensures

pub returns : goal.returns
returns c = filled_all 8 c.loop-j.invariant c.loop-j-test.false (omega arith)

pub loop-j-init : goal.loop-j-init
loop-j-init c = search loops
