-- `demands::code_edit` meets its contract, demand 3. Assumes nothing.
use mathlib.Core.Path.{refl}
use Rattle.std.proofs.lemmas.Result.{err_from_is_err_and}
use Rattle.answer.proofs.Results.{not_done}
use Rattle.demands.proofs.Facts.{edit_stops, edit_follows}
use Rattle.demands.proofs.code_edit.Goals as goal

pub returns-in_err-code : goal.returns-in_err-code
returns-in_err-code c = let a = c.args in
    let p = err_from_is_err_and c.from_residual.result c.from_residual.ensures.1 in
    rw (p.1, p.2)
    (edit_stops a.n a.m0 a.info.now a.parity.now a.capture.now c.in_err-code.ensures a.block a.bits.now
    a.new_parity.now a.list.now (not_done c.in_err-code.field-0.0))

pub returns : goal.returns
returns c = let a = c.args in
    edit_follows a.n a.m0 a.info.now a.parity.now a.capture.now c.in_ok-code.ensures a.block a.bits.now
    a.new_parity.now a.list.now refl c.edit.ensures
