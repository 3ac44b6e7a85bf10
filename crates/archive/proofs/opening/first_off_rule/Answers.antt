-- `archive::opening::first_off_rule` meets its contract: an entry a turn. Assumes nothing.
use native.Mathlib.Omega.{arith}
use Rattle.archive_spec.proofs.Starts.{walked_none, walked_end, off_here, off_more, rule_small}
use Rattle.archive_spec.proofs.Judging.{place_here, place_none}
use borrow.Author.Rules.{rules}
use Rattle.archive.proofs.opening.first_off_rule.Goals as goal

pub overflow_add-from : goal.overflow_add-from
overflow_add-from c = let t = rule_small _ _ _ _ _ _ c.is_off_rule.ensures c.if-is_off_rule.false in
    omega (arith, c.number_at-long.ensures.small)

pub loop-e-init : goal.loop-e-init
loop-e-init c = search walked_none

pub returns-then-is_off_rule : goal.returns-then-is_off_rule
returns-then-is_off_rule c = place_here _ _ (search (off_here, rules)) (omega arith)

pub loop-e-preserved : goal.loop-e-preserved
loop-e-preserved c = search (off_more, rules)

pub returns : goal.returns
returns c = place_none _ _ (walked_end c.loop-e.invariant (omega arith)) (omega arith)
