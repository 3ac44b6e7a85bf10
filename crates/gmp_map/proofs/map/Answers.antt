-- `gmp_map::map` meets its contract: refused by the table, or filled. Assumes nothing.
use mathlib.Core.Path.{refl}
use lib.ListN.{length}
use Rattle.std.proofs.lemmas.Result.{err_from_is_err_and}
use Rattle.answer.proofs.Meets.{meets_done, meets_refused}
use Rattle.answer.proofs.Results.{not_done}
use Rattle.gmp_window.proofs.Judging.{map_taken}
use Rattle.gmp_map.proofs.map.Goals as goal

pub returns-in_err-d : goal.returns-in_err-d
returns-in_err-d c = let p = err_from_is_err_and c.from_residual.result c.from_residual.ensures.1 in
    rw (p.1, p.2) (meets_refused _ c.in_err-d.ensures (not_done c.in_err-d.field-0.0))

pub invariant_of-places : goal.invariant_of-places
invariant_of-places c = let a = c.args in
    record { window = (map_taken a.c a.f a.n a.groups.now (length a.window.now) c.in_ok-d.ensures refl).window }

pub fill_window-requires : goal.fill_window-requires
fill_window-requires c = let a = c.args in
    let t = map_taken a.c a.f a.n a.groups.now (length a.window.now) c.in_ok-d.ensures refl in
    t.window_length

pub returns : goal.returns
returns c = meets_done _ c.in_ok-d.ensures refl c.fill_window.ensures
