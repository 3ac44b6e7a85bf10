-- Each run ends at or behind the place asked for, and at the last place at most.
use Rattle.std.proofs.Common.{arith}
use Rattle.gmp.proofs.Asked.{run_place, run_ends}
use Rattle.gmp_print.proofs.print_runs.Goals as goal

pub overflow_add-from : goal.overflow_add-from
overflow_add-from g c =
    let e = run_ends _ _ c.in-Ok.run' (run_place _ _ _ c.in-Ok.ensures.told) c.in-Ok.ensures.told in omega (arith, e.to)

pub loop-run-smaller : goal.loop-run-smaller
loop-run-smaller g c =
    let e = run_ends _ _ c.in-Ok.run' (run_place _ _ _ c.in-Ok.ensures.told) c.in-Ok.ensures.told in omega (arith, e.from, e.to)

pub loop-run-preserved : goal.loop-run-preserved
loop-run-preserved g c =
    let e = run_ends _ _ c.in-Ok.run' (run_place _ _ _ c.in-Ok.ensures.told) c.in-Ok.ensures.told in (omega arith, omega (arith, e.to))
