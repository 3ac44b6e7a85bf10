-- `edit::judge` meets its contract: the tests in turn are the table. Assumes nothing.
use Prim.Native.Nat.{◌≤◌}
use mathlib.Core.Path.{ap}
use mathlib.Core.Bool.{not}
use native.Mathlib.Omega.{arith}
use Rattle.std.proofs.lemmas.Result.{err_from_is_err_and}
use Rattle.answer.specs.Steps.{faults_then, row_then, in_turn}
use Rattle.answer.proofs.Turns.{in_turn_law}
use Rattle.answer.proofs.Results.{test_held, test_gone}
use Rattle.sizes.specs.Sizes.{most_frames}
use Rattle.line.proofs.CaptureLaws.{frames_in}
use Rattle.edit_spec.specs.Edit.{edit_early_rows}
use Rattle.edit.proofs.judge.Goals.{Else-not-one_of}
use Rattle.edit.proofs.judge.Goals as goal

few : (c : Else-not-one_of) → c.args.n ≤ most_frames
few c = (frames_in _ _ c.one_of.ensures (ap not c.if-not-one_of.false)).few

pub returns-then-not-one_of : goal.returns-then-not-one_of
unfolding edit_early_rows in_turn row_then
returns-then-not-one_of c = rw (in_turn_law, ← c.one_of.ensures, c.if-not-one_of.true, c.at.ensures)

pub overflow_mul-capture_bytes : goal.overflow_mul-capture_bytes
overflow_mul-capture_bytes c = omega (arith, few c)

pub overflow_add-capture_bytes : goal.overflow_add-capture_bytes
overflow_add-capture_bytes c = omega (arith, few c)

pub returns-in_err-refuse_length : goal.returns-in_err-refuse_length
unfolding edit_early_rows in_turn row_then faults_then
returns-in_err-refuse_length c = let p = err_from_is_err_and c.from_residual.result c.from_residual.ensures.1 in
    let h = test_held _ c.in_err-refuse_length.ensures in
    rw (p.1, p.2, ← h.1, in_turn_law, ← c.one_of.ensures, c.if-not-one_of.false, h.0)

pub returns-in_err-refuse_length-2 : goal.returns-in_err-refuse_length-2
unfolding edit_early_rows in_turn row_then faults_then
returns-in_err-refuse_length-2 c = let p = err_from_is_err_and c.from_residual-in_err-refuse_length-2.result c.from_residual-in_err-refuse_length-2.ensures.1 in
    let h = test_held _ c.in_err-refuse_length-2.ensures in
    rw (p.1, p.2, ← h.1, in_turn_law, ← c.one_of.ensures, c.if-not-one_of.false, test_gone _ c.in_ok-refuse_length.ensures, h.0)

pub returns-in_err-refuse_length-3 : goal.returns-in_err-refuse_length-3
unfolding edit_early_rows in_turn row_then faults_then
returns-in_err-refuse_length-3 c = let p = err_from_is_err_and c.from_residual-in_err-refuse_length-3.result c.from_residual-in_err-refuse_length-3.ensures.1 in
    let h = test_held _ c.in_err-refuse_length-3.ensures in
    rw (p.1, p.2, ← h.1, in_turn_law, ← c.one_of.ensures, c.if-not-one_of.false, test_gone _ c.in_ok-refuse_length.ensures, test_gone _ c.in_ok-refuse_length-2.ensures, h.0)

pub returns-in_err-refuse_length-4 : goal.returns-in_err-refuse_length-4
unfolding edit_early_rows in_turn row_then faults_then
returns-in_err-refuse_length-4 c = let p = err_from_is_err_and c.from_residual-in_err-refuse_length-4.result c.from_residual-in_err-refuse_length-4.ensures.1 in
    let h = test_held _ c.in_err-refuse_length-4.ensures in
    rw (p.1, p.2, ← h.1, in_turn_law, ← c.one_of.ensures, c.if-not-one_of.false, test_gone _ c.in_ok-refuse_length.ensures, test_gone _ c.in_ok-refuse_length-2.ensures, test_gone _ c.in_ok-refuse_length-3.ensures, h.0)

pub returns-in_err-refuse_when : goal.returns-in_err-refuse_when
unfolding edit_early_rows in_turn row_then faults_then
returns-in_err-refuse_when c = let p = err_from_is_err_and c.from_residual-in_err-refuse_when.result c.from_residual-in_err-refuse_when.ensures.1 in
    let h = test_held _ c.in_err-refuse_when.ensures in
    rw (p.1, p.2, ← h.1, c.buffer_place.ensures, in_turn_law, ← c.one_of.ensures, c.if-not-one_of.false, test_gone _ c.in_ok-refuse_length.ensures, test_gone _ c.in_ok-refuse_length-2.ensures, test_gone _ c.in_ok-refuse_length-3.ensures, test_gone _ c.in_ok-refuse_length-4.ensures, h.0)

pub returns : goal.returns
unfolding edit_early_rows in_turn row_then faults_then
returns c = rw (
  in_turn_law,
  ← c.one_of.ensures,
  c.if-not-one_of.false,
  test_gone _ c.in_ok-refuse_length.ensures,
  test_gone _ c.in_ok-refuse_length-2.ensures,
  test_gone _ c.in_ok-refuse_length-3.ensures,
  test_gone _ c.in_ok-refuse_length-4.ensures,
  test_gone _ c.in_ok-refuse_when.ensures,
)
