-- `code::judge` meets its contract: the tests in turn are the table. Assumes nothing.
use Prim.Native.Nat.{◌≤◌}
use mathlib.Core.Path.{ap}
use mathlib.Core.Bool.{not}
use native.Mathlib.Omega.{arith}
use Rattle.std.proofs.lemmas.Result.{err_from_is_err_and}
use Rattle.answer.specs.Steps.{faults_then, row_then, in_turn}
use Rattle.answer.proofs.Turns.{in_turn_law}
use Rattle.answer.proofs.Results.{test_held, test_gone}
use Rattle.sizes.specs.Sizes.{most_frames}
use Rattle.line.proofs.CaptureLaws.{frames_in}
use Rattle.code.specs.Code.{code_rows}
use Rattle.code.proofs.judge.Goals.{Else-not-numbers_allowed}
use Rattle.code.proofs.judge.Goals as goal

few : (c : Else-not-numbers_allowed) → c.args.n ≤ most_frames
few c = (frames_in _ _ c.numbers_allowed.ensures (ap not c.if-not-numbers_allowed.false)).few

pub returns-then-not-numbers_allowed : goal.returns-then-not-numbers_allowed
unfolding code_rows in_turn row_then
returns-then-not-numbers_allowed c = rw (in_turn_law, ← c.numbers_allowed.ensures, c.if-not-numbers_allowed.true, c.at.ensures)

pub overflow_mul-n : goal.overflow_mul-n
overflow_mul-n c = omega (arith, few c)

pub overflow_mul-n-2 : goal.overflow_mul-n-2
overflow_mul-n-2 c = omega (arith, few (goal.at.overflow_mul-n-2 c).Else-not-numbers_allowed)

pub overflow_mul-capture_bytes : goal.overflow_mul-capture_bytes
overflow_mul-capture_bytes c = omega (arith, few (goal.at.overflow_mul-capture_bytes c).Else-not-numbers_allowed)

pub overflow_add-capture_bytes : goal.overflow_add-capture_bytes
overflow_add-capture_bytes c = omega (arith, few (goal.at.overflow_add-capture_bytes c).Else-not-numbers_allowed)

pub returns-in_err-refuse_length : goal.returns-in_err-refuse_length
unfolding code_rows in_turn row_then faults_then
returns-in_err-refuse_length c = let p = err_from_is_err_and c.from_residual.result c.from_residual.ensures.1 in
    let h = test_held _ c.in_err-refuse_length.ensures in
    rw (p.1, p.2, ← h.1, in_turn_law, ← c.numbers_allowed.ensures, c.if-not-numbers_allowed.false, h.0)

pub returns-in_err-refuse_length-2 : goal.returns-in_err-refuse_length-2
unfolding code_rows in_turn row_then faults_then
returns-in_err-refuse_length-2 c = let p = err_from_is_err_and c.from_residual-in_err-refuse_length-2.result c.from_residual-in_err-refuse_length-2.ensures.1 in
    let h = test_held _ c.in_err-refuse_length-2.ensures in
    rw (p.1, p.2, ← h.1, in_turn_law, ← c.numbers_allowed.ensures, c.if-not-numbers_allowed.false, test_gone _ c.in_ok-refuse_length.ensures, h.0)

pub returns-in_err-refuse_length-3 : goal.returns-in_err-refuse_length-3
unfolding code_rows in_turn row_then faults_then
returns-in_err-refuse_length-3 c = let p = err_from_is_err_and c.from_residual-in_err-refuse_length-3.result c.from_residual-in_err-refuse_length-3.ensures.1 in
    let h = test_held _ c.in_err-refuse_length-3.ensures in
    rw (
      p.1,
      p.2,
      ← h.1,
      in_turn_law,
      ← c.numbers_allowed.ensures,
      c.if-not-numbers_allowed.false,
      test_gone _ c.in_ok-refuse_length.ensures,
      test_gone _ c.in_ok-refuse_length-2.ensures,
      h.0,
    )

pub returns : goal.returns
unfolding code_rows in_turn row_then faults_then
returns c = rw (
  in_turn_law,
  ← c.numbers_allowed.ensures,
  c.if-not-numbers_allowed.false,
  test_gone _ c.in_ok-refuse_length.ensures,
  test_gone _ c.in_ok-refuse_length-2.ensures,
  test_gone _ c.in_ok-refuse_length-3.ensures,
)
