-- `demands::code_flip_read` meets its contract, demand 2. Assumes nothing.
use mathlib.Core.Path.{refl}
use Rattle.std.proofs.lemmas.Result.{err_from_is_err_and}
use Rattle.answer.proofs.Results.{not_done}
use Rattle.demands.proofs.Facts.{read_stops, read_follows}
use Rattle.demands.proofs.code_flip_read.Goals as goal

pub returns-in_err-code : goal.returns-in_err-code
returns-in_err-code c = let a = c.args in
    let p = err_from_is_err_and c.from_residual.result c.from_residual.ensures.1 in
    rw (p.1, p.2)
    (read_stops a.n a.m0 a.info.now a.parity.now a.capture.now c.in_err-code.ensures a.flips.now a.back.now a.parity_back.now
    (not_done c.in_err-code.field-0.0))

pub returns : goal.returns
returns c = let a = c.args in
    read_follows a.n a.m0 a.info.now a.parity.now a.capture.now c.in_ok-code.ensures a.flips.now a.back.now a.parity_back.now
    (λ i. (c.shared_slice_known-1.given i).fits) (λ i. (c.shared_slice_known-2-1.given i).fits) refl
    c.flip_bits.ensures c.read.ensures
