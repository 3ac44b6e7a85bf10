-- `code::code` meets its contract: done, or refused with the capture as it was. Assumes nothing.
use mathlib.Core.Path.{refl}
use Rattle.std.proofs.lemmas.Result.{err_from_is_err_and}
use Rattle.answer.proofs.Meets.{meets_done, meets_refused}
use Rattle.answer.proofs.Results.{not_done}
use Rattle.code.specs.Code.{capture_of, code_answer, code_leaves}
use Rattle.code.proofs.Judging.{code_granted}
use Rattle.code.proofs.code.Goals as goal

pub returns-in_err-words : goal.returns-in_err-words
unfolding code_answer code_leaves
returns-in_err-words c = let a = c.args in
    let p = err_from_is_err_and c.from_residual.result c.from_residual.ensures.1 in
    rw (p.1, p.2) (meets_refused (capture_of a.n a.m0 a.info.now a.parity.now) c.in_err-words.ensures (not_done c.in_err-words.field-0.0))

pub code_all-requires : goal.code_all-requires
code_all-requires c = let a = c.args in
    code_granted a.n a.m0 a.info.now a.parity.now a.capture.now c.in_ok-words.ensures refl

pub returns : goal.returns
unfolding code_answer code_leaves
returns c = meets_done c.args.capture.now c.in_ok-words.ensures refl c.code_all.ensures
