-- `archive::opening::judge_file` meets its contract: its tests in turn. Assumes nothing.
use Rattle.answer.proofs.Results.{test_held, test_gone, handed_on}
use Rattle.archive_spec.proofs.Judging.{no_archive, bad_count_law, entries_decide, count_known}
use Rattle.archive.proofs.opening.judge_file.Goals as goal

pub judge_entries-requires : goal.judge_entries-requires
judge_entries-requires c = (count_known c.args.size c.number_at-n.result c.is_bad_count.ensures (test_gone _ c.in_ok-refuse_when-2.ensures)).few

pub returns-in_err-refuse_when : goal.returns-in_err-refuse_when
returns-in_err-refuse_when c = let h = test_held _ c.in_err-refuse_when.ensures in
    no_archive _ _ c.is_no_archive.ensures _ h.0 (rw (handed_on c.from_residual.ensures.1, ← h.1))

pub returns-in_err-refuse_when-2 : goal.returns-in_err-refuse_when-2
returns-in_err-refuse_when-2 c = let h = test_held _ c.in_err-refuse_when-2.ensures in
    bad_count_law _ _ c.is_no_archive.ensures (test_gone _ c.in_ok-refuse_when.ensures) c.number_at-n.ensures.is c.is_bad_count.ensures h.0
    (rw (handed_on c.from_residual-in_err-refuse_when-2.ensures.1, ← h.1))

pub returns : goal.returns
returns c =
    entries_decide _ _ c.is_no_archive.ensures (test_gone _ c.in_ok-refuse_when.ensures) c.number_at-n.ensures.is c.is_bad_count.ensures
    (test_gone _ c.in_ok-refuse_when-2.ensures) c.judge_entries.ensures
