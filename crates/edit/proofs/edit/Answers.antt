-- `edit::edit` meets its contract: refused by numbers 1 to 3, or what is checked and done. Assumes nothing.
use mathlib.Core.Path.{refl}
use Rattle.std.proofs.lemmas.Result.{err_from_is_err_and}
use Rattle.answer.proofs.Results.{not_done}
use Rattle.edit_spec.proofs.Answers.{edit_accepted, edit_refused}
use Rattle.edit.proofs.edit.Goals as goal

pub returns-in_err-judge : goal.returns-in_err-judge
returns-in_err-judge c = let a = c.args in
    let p = err_from_is_err_and c.from_residual.result c.from_residual.ensures.1 in
    rw (p.1, p.2)
    (edit_refused a.n a.block a.bits.now a.parity.now a.capture.now a.list.now c.spare_set.ensures c.in_err-judge.ensures
    (not_done c.in_err-judge.field-0.0))

pub edit_checked-requires : goal.edit_checked-requires
edit_checked-requires c = let a = c.args in
    edit_accepted a.n a.block a.bits.now a.parity.now a.capture.now a.list.now c.spare_set.ensures c.in_ok-judge.ensures refl
