-- `gmp_window::map_answer` meets its contract: its tests in turn are the table. Assumes nothing.
use mathlib.Core.Path.{refl}
use Rattle.std.proofs.lemmas.Result.{err_from_is_err_and}
use Rattle.answer.specs.Steps.{in_turn, row_then, faults_then}
use Rattle.answer.proofs.Results.{test_held, test_gone}
use Rattle.answer.proofs.Turns.{turn_refused}
use Rattle.gmp_window.specs.Answers.{map_answer}
use Rattle.gmp_window.proofs.Judging.{map_late_law}
use Rattle.gmp_window.proofs.map_answer.Goals as goal

pub returns-in_err-refuse_when : goal.returns-in_err-refuse_when
unfolding map_answer
returns-in_err-refuse_when c = let p = err_from_is_err_and c.from_residual.result c.from_residual.ensures.1 in
    let h = test_held _ c.in_err-refuse_when.ensures in
    rw (p.1, p.2, ← h.1) (turn_refused _ _ _ _ c.outside_window.ensures h.0 refl)

pub returns-in_err-refuse_length : goal.returns-in_err-refuse_length
unfolding in_turn row_then faults_then
returns-in_err-refuse_length c = let p = err_from_is_err_and c.from_residual-in_err-refuse_length.result c.from_residual-in_err-refuse_length.ensures.1 in
    let h = test_held _ c.in_err-refuse_length.ensures in
    rw (p.1, p.2, ← h.1)
    (map_late_law _ _ _ c.outside_window.ensures (test_gone _ c.in_ok-refuse_when.ensures) c.data_in-d.ensures.is _ _ (rw (← c.group_bytes.ensures, h.0)))

pub returns-in_err-refuse_length-2 : goal.returns-in_err-refuse_length-2
unfolding in_turn row_then faults_then
returns-in_err-refuse_length-2 c = let p = err_from_is_err_and c.from_residual-in_err-refuse_length-2.result c.from_residual-in_err-refuse_length-2.ensures.1 in
    let h = test_held _ c.in_err-refuse_length-2.ensures in
    rw (p.1, p.2, ← h.1)
    (map_late_law _ _ _ c.outside_window.ensures (test_gone _ c.in_ok-refuse_when.ensures) c.data_in-d.ensures.is _ _ (rw (← c.group_bytes.ensures, ← c.window_bytes.ensures, test_gone _ c.in_ok-refuse_length.ensures, h.0)))

pub returns-in_err-refuse_when-2 : goal.returns-in_err-refuse_when-2
unfolding in_turn row_then faults_then
returns-in_err-refuse_when-2 c = let p = err_from_is_err_and c.from_residual-in_err-refuse_when-2.result c.from_residual-in_err-refuse_when-2.ensures.1 in
    let h = test_held _ c.in_err-refuse_when-2.ensures in
    rw (p.1, p.2, ← h.1)
    (map_late_law _ _ _ c.outside_window.ensures (test_gone _ c.in_ok-refuse_when.ensures) c.data_in-d.ensures.is _ _ (rw (c.buffer_place.ensures, ← c.group_bytes.ensures, ← c.window_bytes.ensures, test_gone _ c.in_ok-refuse_length.ensures, test_gone _ c.in_ok-refuse_length-2.ensures, ← c.spare_set.ensures, h.0)))

pub returns : goal.returns
unfolding in_turn row_then faults_then
returns c =
    map_late_law _ _ _ c.outside_window.ensures (test_gone _ c.in_ok-refuse_when.ensures) c.data_in-d.ensures.is _ _
    (rw (← c.group_bytes.ensures, ← c.window_bytes.ensures, test_gone _ c.in_ok-refuse_length.ensures, test_gone _ c.in_ok-refuse_length-2.ensures, ← c.spare_set.ensures, test_gone _ c.in_ok-refuse_when-2.ensures))
