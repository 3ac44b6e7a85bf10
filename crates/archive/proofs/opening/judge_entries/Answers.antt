-- `archive::opening::judge_entries` meets its contract: its tests in turn. Assumes nothing.
use Rattle.answer.specs.declared.refusal.Refusal.TheVariants.{BadEntry, Misplaced}
use Rattle.answer.proofs.Results.{test_held, test_gone, handed_on}
use Rattle.archive_spec.specs.Steps.{entries_answer}
use Rattle.archive_spec.proofs.Judging.{place_refused}
use Rattle.archive.proofs.opening.judge_entries.Goals as goal

pub returns-in_err-refuse_at : goal.returns-in_err-refuse_at
unfolding entries_answer
returns-in_err-refuse_at c = let h = test_held _ (place_refused _ _ BadEntry c.first_bad_kind-bad.ensures c.in_err-refuse_at.ensures) in
    rw (handed_on c.from_residual.ensures.1, ← h.1, h.0)

pub returns-in_err-refuse_at-2 : goal.returns-in_err-refuse_at-2
unfolding entries_answer
returns-in_err-refuse_at-2 c = let h = test_held _ (place_refused _ _ Misplaced c.first_off_rule-off.ensures c.in_err-refuse_at-2.ensures) in
    let g = test_gone _ (place_refused _ _ BadEntry c.first_bad_kind-bad.ensures c.in_ok-refuse_at.ensures) in
    rw (handed_on c.from_residual-in_err-refuse_at-2.ensures.1, ← h.1, g, h.0)

pub returns : goal.returns
unfolding entries_answer
returns c = let g = test_gone _ (place_refused _ _ BadEntry c.first_bad_kind-bad.ensures c.in_ok-refuse_at.ensures) in
    let h = test_gone _ (place_refused _ _ Misplaced c.first_off_rule-off.ensures c.in_ok-refuse_at-2.ensures) in
    rw (g, h)
