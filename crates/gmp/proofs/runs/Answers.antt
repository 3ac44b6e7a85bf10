-- `gmp::runs` meets its contract: the two functions that take turns count. Assumes nothing.
use Rattle.std.proofs.lemmas.Result.{err_from_is_err_and}
use Rattle.answer.specs.Steps.{in_turn, row_then}
use Rattle.answer.proofs.Results.{test_held, test_gone}
use Rattle.answer.proofs.Turns.{in_turn_law}
use Rattle.gmp.specs.Answers.{runs_of}
use Rattle.gmp.proofs.Allowed.{inside}
use Rattle.gmp.proofs.Asked.{runs_told}
use Rattle.gmp.proofs.runs.Goals as goal

pub returns-in_err-refuse_when : goal.returns-in_err-refuse_when
unfolding runs_of in_turn row_then
returns-in_err-refuse_when c = let p = err_from_is_err_and c.from_residual.result c.from_residual.ensures.1 in
    let h = test_held _ c.in_err-refuse_when.ensures in
    rw (p.1, p.2, ← h.1, in_turn_law, ← c.outside_place.ensures, h.0)

pub returns-then-is_data : goal.returns-then-is_data
returns-then-is_data c = runs_told _ _ (inside _ _ c.outside_place.ensures (test_gone _ c.in_ok-refuse_when.ensures)) c.data_runs.ensures

pub returns : goal.returns
returns c = runs_told _ _ (inside _ _ c.outside_place.ensures (test_gone _ c.in_ok-refuse_when.ensures)) c.stuff_runs.ensures
