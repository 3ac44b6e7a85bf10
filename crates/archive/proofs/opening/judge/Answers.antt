-- `archive::opening::judge` meets its contract: the lengths, then the file. Assumes nothing.
use Rattle.answer.specs.Steps.{in_turn, row_then, faults_then}
use Rattle.answer.proofs.Turns.{turn_late}
use Rattle.answer.proofs.Results.{test_held, test_gone, handed_on}
use Rattle.archive_spec.specs.Read.{open_early_rows, open_answer}
use Rattle.archive.proofs.opening.judge.Goals as goal

pub returns-in_err-refuse_length : goal.returns-in_err-refuse_length
unfolding open_answer open_early_rows in_turn row_then faults_then
returns-in_err-refuse_length c = let h = test_held _ c.in_err-refuse_length.ensures in
    rw (handed_on c.from_residual.ensures.1, ← h.1, turn_late, ← c.min-wanted.ensures, h.0)

pub returns-in_err-refuse_length-2 : goal.returns-in_err-refuse_length-2
unfolding open_answer open_early_rows in_turn row_then faults_then
returns-in_err-refuse_length-2 c = let h = test_held _ c.in_err-refuse_length-2.ensures in
    rw (handed_on c.from_residual-in_err-refuse_length-2.ensures.1, ← h.1, turn_late, ← c.min-wanted.ensures, test_gone _ c.in_ok-refuse_length.ensures, h.0)

pub returns-in_err-refuse_length-3 : goal.returns-in_err-refuse_length-3
unfolding open_answer open_early_rows in_turn row_then faults_then
returns-in_err-refuse_length-3 c = let h = test_held _ c.in_err-refuse_length-3.ensures in
    rw (
      handed_on c.from_residual-in_err-refuse_length-3.ensures.1,
      ← h.1,
      turn_late,
      ← c.min-wanted.ensures,
      test_gone _ c.in_ok-refuse_length.ensures,
      test_gone _ c.in_ok-refuse_length-2.ensures,
      h.0,
    )

pub returns-in_err-refuse_length-4 : goal.returns-in_err-refuse_length-4
unfolding open_answer open_early_rows in_turn row_then faults_then
returns-in_err-refuse_length-4 c = let h = test_held _ c.in_err-refuse_length-4.ensures in
    rw (
      handed_on c.from_residual-in_err-refuse_length-4.ensures.1,
      ← h.1,
      turn_late,
      ← c.min-wanted.ensures,
      test_gone _ c.in_ok-refuse_length.ensures,
      test_gone _ c.in_ok-refuse_length-2.ensures,
      test_gone _ c.in_ok-refuse_length-3.ensures,
      h.0,
    )

pub returns : goal.returns
unfolding open_answer open_early_rows in_turn row_then faults_then
returns c =
    rw (
      turn_late,
      ← c.min-wanted.ensures,
      test_gone _ c.in_ok-refuse_length.ensures,
      test_gone _ c.in_ok-refuse_length-2.ensures,
      test_gone _ c.in_ok-refuse_length-3.ensures,
      test_gone _ c.in_ok-refuse_length-4.ensures,
      c.judge_file.ensures,
    )
