-- The cycle of `data_runs` and `stuff_runs` meets its contracts: what is left behind the run of place j is handed over. Assumes nothing.
use Rattle.std.proofs.Common.{ℕ, ◌+◌, ap, ◌∙◌, arith}
use mathlib.Core.Bool.{not}
use Rattle.gmp.proofs.Stretches.{runs_few}
use Rattle.gmp.proofs.Ends.{ended, handed}
use Rattle.gmp.proofs.+data_runs_stuff_runs.Goals as goal

pub data_runs-returns-then-last-eq-PLACES : goal.data_runs-returns-then-last-eq-PLACES
data_runs-returns-then-last-eq-PLACES t c = ended _ _ _ c.requires.0 c.data_last-last.ensures c.if-last-eq-PLACES.true

pub data_runs-overflow_add-last : goal.data_runs-overflow_add-last
data_runs-overflow_add-last t c = let h = handed _ _ _ c.requires.0 c.data_last-last.ensures c.if-last-eq-PLACES.false in omega (arith, h.behind.to)

pub data_runs-stuff_runs-requires : goal.data_runs-stuff_runs-requires
data_runs-stuff_runs-requires t c =
    let h = handed _ _ _ c.requires.0 c.data_last-last.ensures c.if-last-eq-PLACES.false in
    (omega (arith, h.fewer), (h.behind, h.other ∙ ap not c.requires.1))

pub data_runs-overflow_add-result : goal.data_runs-overflow_add-result
data_runs-overflow_add-result t c = omega (arith, c.stuff_runs.ensures, runs_few c.args.c (c.data_last-last.result + 1))

pub data_runs-returns : goal.data_runs-returns
data_runs-returns t c =
    let h = handed _ _ _ c.requires.0 c.data_last-last.ensures c.if-last-eq-PLACES.false in
    ap (λ (x : ℕ). 1 + x) c.stuff_runs.ensures ∙ h.counts

pub stuff_runs-returns-then-last-eq-PLACES : goal.stuff_runs-returns-then-last-eq-PLACES
stuff_runs-returns-then-last-eq-PLACES t c = ended _ _ _ c.requires.0 c.stuff_last-last.ensures c.if-last-eq-PLACES.true

pub stuff_runs-overflow_add-last : goal.stuff_runs-overflow_add-last
stuff_runs-overflow_add-last t c = let h = handed _ _ _ c.requires.0 c.stuff_last-last.ensures c.if-last-eq-PLACES.false in omega (arith, h.behind.to)

pub stuff_runs-data_runs-requires : goal.stuff_runs-data_runs-requires
stuff_runs-data_runs-requires t c =
    let h = handed _ _ _ c.requires.0 c.stuff_last-last.ensures c.if-last-eq-PLACES.false in
    (omega (arith, h.fewer), (h.behind, h.other ∙ ap not c.requires.1))

pub stuff_runs-overflow_add-result : goal.stuff_runs-overflow_add-result
stuff_runs-overflow_add-result t c = omega (arith, c.data_runs.ensures, runs_few c.args.c (c.stuff_last-last.result + 1))

pub stuff_runs-returns : goal.stuff_runs-returns
stuff_runs-returns t c =
    let h = handed _ _ _ c.requires.0 c.stuff_last-last.ensures c.if-last-eq-PLACES.false in
    ap (λ (x : ℕ). 1 + x) c.data_runs.ensures ∙ h.counts
