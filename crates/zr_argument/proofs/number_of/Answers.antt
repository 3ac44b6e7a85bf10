-- `zr_argument::number_of` meets its contract: nothing to read, a byte that is no digit, and all bytes read. Assumes nothing.
use Rattle.std.proofs.Common.{sym, ◌∙◌}
use borrow.Author.Tests.{eqb-true}
use Rattle.zr_argument.proofs.Digits.{nothing, not_empty, one_more, no_digit}
use Rattle.zr_argument.proofs.number_of.Goals.{Else-is_empty}
use Rattle.zr_argument.proofs.number_of.Goals as goal

pub returns-then-is_empty : goal.returns-then-is_empty
returns-then-is_empty c = not_empty _ (eqb-true _ _ (sym c.is_empty.ensures ∙ c.if-is_empty.true))

pub loop-b-init : goal.loop-b-init
loop-b-init c = nothing _

pub returns-in_err-v : goal.returns-in_err-v
returns-in_err-v c = c.from_residual.ensures ∙ no_digit _ _ _ c.loop-b.invariant c.loop-b-test.true c.in_err-v.ensures

pub loop-b-preserved : goal.loop-b-preserved
loop-b-preserved c = one_more _ _ _ c.loop-b.invariant _ c.loop-b-test.true c.in_ok-v.ensures
