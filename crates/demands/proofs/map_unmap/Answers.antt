-- `demands::map_unmap` meets its contract: the round trip of windows. Assumes nothing.
use mathlib.Core.Path.{refl}
use Rattle.std.proofs.lemmas.Result.{err_from_is_err_and}
use Rattle.answer.proofs.Results.{not_done}
use Rattle.gmp_map.specs.Steps.{refused_first, went_on}
use Rattle.gmp_map.proofs.RoundTrip.{round_trip}
use Rattle.demands.proofs.map_unmap.Goals as goal

pub returns-in_err-map : goal.returns-in_err-map
returns-in_err-map c = let given = c.shared_slice_known-1.given in
    let p = err_from_is_err_and c.from_residual.result c.from_residual.ensures.1 in
    rw (p.1, p.2)
    (round_trip _ _ _ _ _ _ (λ k. (given k).fits) (refused_first c.in_err-map.ensures (not_done c.in_err-map.field-0.0)))

pub returns : goal.returns
returns c = let given = c.shared_slice_known-1.given in
    round_trip _ _ _ _ _ _ (λ k. (given k).fits) (went_on c.in_ok-map.ensures refl c.unmap.ensures)
