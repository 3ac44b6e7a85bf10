-- `archive::writing::judge` meets its contract: its tests in turn are the table. Assumes nothing.
use native.Mathlib.Omega.{arith}
use Rattle.answer.specs.Steps.{in_turn, row_then, faults_then}
use Rattle.answer.proofs.Turns.{in_turn_law}
use Rattle.answer.proofs.Results.{test_held, test_gone, handed_on}
use Rattle.archive_spec.specs.Write.{write_answer}
use Rattle.archive_spec.proofs.Judging.{write_counted}
use Rattle.archive.proofs.writing.judge.Goals as goal

pub entry_from-bytes-requires : goal.entry_from-bytes-requires
entry_from-bytes-requires c = omega (arith, write_counted _ _ _ c.outside.ensures (test_gone _ c.in_ok-refuse_when.ensures))

pub returns-in_err-refuse_when : goal.returns-in_err-refuse_when
unfolding write_answer in_turn row_then faults_then
returns-in_err-refuse_when c = let h = test_held _ c.in_err-refuse_when.ensures in
    rw (handed_on c.from_residual.ensures.1, ← h.1, in_turn_law, ← c.outside.ensures, h.0)

pub returns-in_err-refuse_length : goal.returns-in_err-refuse_length
unfolding write_answer in_turn row_then faults_then
returns-in_err-refuse_length c = let h = test_held _ c.in_err-refuse_length.ensures in
    rw (handed_on c.from_residual-in_err-refuse_length.ensures.1, ← h.1, in_turn_law, ← c.outside.ensures, test_gone _ c.in_ok-refuse_when.ensures, h.0)

pub returns-in_err-refuse_length-2 : goal.returns-in_err-refuse_length-2
unfolding write_answer in_turn row_then faults_then
returns-in_err-refuse_length-2 c = let h = test_held _ c.in_err-refuse_length-2.ensures in
    rw (
      handed_on c.from_residual-in_err-refuse_length-2.ensures.1,
      ← h.1,
      in_turn_law,
      ← c.outside.ensures,
      test_gone _ c.in_ok-refuse_when.ensures,
      test_gone _ c.in_ok-refuse_length.ensures,
      h.0,
    )

pub returns-in_err-refuse_length-3 : goal.returns-in_err-refuse_length-3
unfolding write_answer in_turn row_then faults_then
returns-in_err-refuse_length-3 c = let h = test_held _ c.in_err-refuse_length-3.ensures in
    rw (
      handed_on c.from_residual-in_err-refuse_length-3.ensures.1,
      ← h.1,
      in_turn_law,
      ← c.outside.ensures,
      ← c.entry_from-bytes.ensures,
      test_gone _ c.in_ok-refuse_when.ensures,
      test_gone _ c.in_ok-refuse_length.ensures,
      test_gone _ c.in_ok-refuse_length-2.ensures,
      h.0,
    )

pub returns : goal.returns
unfolding write_answer in_turn row_then faults_then
returns c =
    rw (
      in_turn_law,
      ← c.outside.ensures,
      ← c.entry_from-bytes.ensures,
      test_gone _ c.in_ok-refuse_when.ensures,
      test_gone _ c.in_ok-refuse_length.ensures,
      test_gone _ c.in_ok-refuse_length-2.ensures,
      test_gone _ c.in_ok-refuse_length-3.ensures,
    )
