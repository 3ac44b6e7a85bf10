-- `line_order::interleave` meets its contract: the words are put one after the other. Assumes nothing.
use mathlib.Core.Path.{refl, ◌∙◌}
use native.Mathlib.Omega.{arith}
use Rattle.prelude.proofs.LoopLaws.{folded_none, folded_more, folded_all}
use Rattle.line_order.specs.Steps.{replace_by}
use Rattle.line_order.proofs.Groups.{group_put}
use borrow.Author.Rules.{rules}
use Rattle.line_order.proofs.interleave.Goals as goal

pub loop-w-init : goal.loop-w-init
loop-w-init c = (folded_none, refl, omega arith)

pub loop-w-preserved : goal.loop-w-preserved
unfolding replace_by
loop-w-preserved c = let l = c.loop-w in
    (folded_more l.invariant.0 c.put_inside.ensures, search rules, omega arith)

pub returns : goal.returns
returns c = let l = c.loop-w in
    folded_all 8 l.invariant.0 l.invariant.2 c.loop-w-test.false ∙ group_put c.args.words _ refl
