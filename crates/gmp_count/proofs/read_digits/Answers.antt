-- `gmp_count::read_digits` meets its contract. Assumes nothing.
use mathlib.Core.Path.{◌∙◌}
use native.Mathlib.Omega.{arith}
use Rattle.prelude.proofs.LoopLaws.{folded_none, folded_more, folded_all}
use Rattle.gmp_count.proofs.Lines.{none_from, above_read}
use Rattle.gmp_count.proofs.read_digits.Goals as goal

pub loop-k-init : goal.loop-k-init
loop-k-init c = folded_none

pub returns-then-v-from : goal.returns-then-v-from
returns-then-v-from c = above_read _ _ c.loop-k.invariant.is (omega (arith, c.if-v-from.true, c.from.ensures)) (omega (arith, c.if-v-from.true, c.from.ensures))
    c.loop-k-test.true c.read_above.ensures

pub returns-in_err-v : goal.returns-in_err-v
returns-in_err-v c = c.from_residual.ensures ∙ none_from _ c.loop-k.invariant c.loop-k-test.true c.in_err-v.ensures

pub loop-k-preserved : goal.loop-k-preserved
loop-k-preserved c = folded_more c.loop-k.invariant c.in_ok-v.ensures

pub returns : goal.returns
returns c = folded_all _ c.loop-k.invariant c.loop-k.auto.k-end c.loop-k-test.false
