-- `test_data::Generator::fill` meets its contract: after k turns k elements are filled and the generator has gone k steps. Assumes nothing.
use native.Mathlib.Omega.{arith}
use Rattle.prelude.proofs.Lists.{filled_none, filled_more}
use Rattle.prelude.proofs.LoopLaws.{loops}
use Rattle.test_data.proofs.Steps.{at_start, at_step, at_end, gives}
use Rattle.test_data.proofs.Generator.fill.Goals as goal

pub loop-x-init : goal.loop-x-init
loop-x-init g c = (at_start _, filled_none)

pub loop-x-preserved : goal.loop-x-preserved
loop-x-preserved g c = let h = c.loop-x in
    let s = at_step h.invariant.0 c.step.ensures in
    (s, filled_more h.invariant.1 c.loop-x-test.true (gives _ h.x-index s c.output.ensures c.made_of.ensures))

pub returns : goal.returns
returns g c = record { filled = search loops; state = at_end _ c.loop-x.invariant.0 (omega arith) (omega arith) }
