-- `read::read` meets its contract. Assumes nothing.
use Rattle.std.proofs.lemmas.Result.{err_from_is_err_and}
use Rattle.answer.proofs.Results.{not_done}
use Rattle.read_spec.proofs.Judging.{read_accepted, read_late, read_refused}
use mathlib.Core.Path.{refl}
use Rattle.read.proofs.read.Goals as goal

pub returns-in_err-judge : goal.returns-in_err-judge
returns-in_err-judge c = let a = c.args in
    let p = err_from_is_err_and c.from_residual.result c.from_residual.ensures.1 in
    rw (p.1, p.2) (read_refused a.n a.m0 a.capture.now a.info.now a.parity.now c.in_err-judge.ensures (not_done c.in_err-judge.field-0.0))

pub read_accepted-requires : goal.read_accepted-requires
read_accepted-requires c = let a = c.args in
    read_accepted a.n a.m0 a.capture.now a.info.now a.parity.now c.in_ok-judge.ensures refl

pub returns : goal.returns
returns c = let a = c.args in
    read_late a.n a.m0 a.capture.now a.info.now a.parity.now c.in_ok-judge.ensures refl c.read_accepted.ensures
