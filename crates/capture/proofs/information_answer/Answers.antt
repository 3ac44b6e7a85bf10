-- `capture::information_answer` meets its contract: the tests in turn are the table. Assumes nothing.
use Prim.Native.Nat.{◌≤◌}
use mathlib.Core.Bool.{not}
use mathlib.Core.Path.{ap}
use native.Mathlib.Omega.{arith}
use Rattle.std.proofs.lemmas.Result.{err_from_is_err_and}
use Rattle.answer.specs.Steps.{faults_then, row_then, in_turn}
use Rattle.answer.proofs.Turns.{in_turn_law}
use Rattle.answer.proofs.Results.{test_held, test_gone}
use Rattle.sizes.specs.Sizes.{most_frames}
use Rattle.line.proofs.CaptureLaws.{frames_in}
use Rattle.capture.specs.Part.{part_rows, part_answer}
use Rattle.capture.proofs.information_answer.Goals.{Else-not-one_of}
use Rattle.capture.proofs.information_answer.Goals as goal

few : (c : Else-not-one_of) → c.args.n ≤ most_frames
few c = (frames_in _ _ c.one_of.ensures (ap not c.if-not-one_of.false)).few

pub returns-then-not-one_of : goal.returns-then-not-one_of
unfolding part_answer part_rows in_turn row_then
returns-then-not-one_of c = rw (in_turn_law, ← c.one_of.ensures, c.if-not-one_of.true, c.at.ensures)

pub overflow_mul-stated : goal.overflow_mul-stated
overflow_mul-stated c = omega (arith, few c)

pub returns-in_err-refuse_length : goal.returns-in_err-refuse_length
unfolding part_answer part_rows in_turn row_then faults_then
returns-in_err-refuse_length c = let p = err_from_is_err_and c.from_residual.result c.from_residual.ensures.1 in
    let h = test_held _ c.in_err-refuse_length.ensures in
    rw (p.1, p.2, ← h.1, in_turn_law, ← c.one_of.ensures, c.if-not-one_of.false, h.0)

pub returns : goal.returns
unfolding part_answer part_rows in_turn row_then faults_then
returns c = rw (in_turn_law, ← c.one_of.ensures, c.if-not-one_of.false, test_gone _ c.in_ok-refuse_length.ensures)
