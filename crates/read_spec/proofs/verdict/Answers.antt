-- `read_spec::verdict` meets its contract: the searches in turn. Assumes nothing.
use Rattle.std.proofs.lemmas.Result.{err_from_is_err_and}
use Rattle.read_spec.specs.Steps.{verdict_of}
use Rattle.read_spec.proofs.Judging.{found_place, none_found}
use Rattle.read_spec.proofs.verdict.Goals as goal

pub returns-in_err-refuse_at : goal.returns-in_err-refuse_at
unfolding verdict_of
returns-in_err-refuse_at c = let p = err_from_is_err_and c.from_residual.result c.from_residual.ensures.1 in
    rw (p.1, p.2) (found_place _ _ _ c.in_err-refuse_at.ensures)

pub returns-in_err-refuse_at-2 : goal.returns-in_err-refuse_at-2
unfolding verdict_of
returns-in_err-refuse_at-2 c = let p = err_from_is_err_and c.from_residual-in_err-refuse_at-2.result c.from_residual-in_err-refuse_at-2.ensures.1 in
    rw (p.1, p.2, none_found _ _ c.in_ok-refuse_at.ensures) (found_place _ _ _ c.in_err-refuse_at-2.ensures)

pub returns-in_err-refuse_at-3 : goal.returns-in_err-refuse_at-3
unfolding verdict_of
returns-in_err-refuse_at-3 c = let p = err_from_is_err_and c.from_residual-in_err-refuse_at-3.result c.from_residual-in_err-refuse_at-3.ensures.1 in
    rw (p.1, p.2, none_found _ _ c.in_ok-refuse_at.ensures, none_found _ _ c.in_ok-refuse_at-2.ensures) (found_place _ _ _ c.in_err-refuse_at-3.ensures)

pub returns-in_err-refuse_at-4 : goal.returns-in_err-refuse_at-4
unfolding verdict_of
returns-in_err-refuse_at-4 c = let p = err_from_is_err_and c.from_residual-in_err-refuse_at-4.result c.from_residual-in_err-refuse_at-4.ensures.1 in
    rw (p.1, p.2, none_found _ _ c.in_ok-refuse_at.ensures, none_found _ _ c.in_ok-refuse_at-2.ensures, none_found _ _ c.in_ok-refuse_at-3.ensures) (found_place _ _ _ c.in_err-refuse_at-4.ensures)

pub returns-in_err-refuse_at-5 : goal.returns-in_err-refuse_at-5
unfolding verdict_of
returns-in_err-refuse_at-5 c = let p = err_from_is_err_and c.from_residual-in_err-refuse_at-5.result c.from_residual-in_err-refuse_at-5.ensures.1 in
    rw (p.1, p.2, none_found _ _ c.in_ok-refuse_at.ensures, none_found _ _ c.in_ok-refuse_at-2.ensures, none_found _ _ c.in_ok-refuse_at-3.ensures, none_found _ _ c.in_ok-refuse_at-4.ensures) (found_place _ _ _ c.in_err-refuse_at-5.ensures)

pub returns : goal.returns
unfolding verdict_of
returns c = rw (none_found _ _ c.in_ok-refuse_at.ensures, none_found _ _ c.in_ok-refuse_at-2.ensures, none_found _ _ c.in_ok-refuse_at-3.ensures, none_found _ _ c.in_ok-refuse_at-4.ensures, none_found _ _ c.in_ok-refuse_at-5.ensures)
