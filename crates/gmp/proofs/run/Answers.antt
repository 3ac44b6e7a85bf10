-- `gmp::run` meets its contract: a run request is refused, or answered by the kind and the last place. Assumes nothing.
use Rattle.gmp.proofs.Allowed.{inside}
use Rattle.gmp.proofs.Asked.{run_refused, run_told}
use Rattle.gmp.proofs.run.Goals as goal

pub returns-then-outside_place-clause-told : goal.returns-then-outside_place-clause-told
returns-then-outside_place-clause-told c = rw c.at.ensures (run_refused _ _ c.outside_place.ensures c.if-outside_place.true)

pub run_at-requires : goal.run_at-requires
run_at-requires c = inside _ _ c.outside_place.ensures c.if-outside_place.false

pub returns-clause-told : goal.returns-clause-told
returns-clause-told c = rw c.run_at.ensures (run_told _ _ c.outside_place.ensures c.if-outside_place.false)
