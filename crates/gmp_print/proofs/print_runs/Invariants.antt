-- `gmp_print::print_runs` ends: each turn goes on behind a run. Assumes nothing.
use Rattle.std.proofs.Common.{◌-◌, ◌≤◌}
use Rattle.gmp_print.proofs.print_runs.Given as goal

-- a run ends at or behind the place asked for, and the measure is the number of places that are left
abbrev pub invariant-loop-run : goal.invariant-loop-run
invariant-loop-run g l = (1 ≤ l.from) × (l.from ≤ 10221)

abbrev pub decreases-loop-run : goal.decreases-loop-run
decreases-loop-run g l = 10221 - l.from
