-- The cycle of `data_runs` and `stuff_runs`: each one's measure is the number of places behind j. Assumes nothing.
use Rattle.std.proofs.Common.{◌-◌}
use Rattle.sizes.specs.Sizes.{places}
use Rattle.gmp.proofs.+data_runs_stuff_runs.Given as goal

abbrev pub decreases-data_runs : goal.decreases-data_runs
decreases-data_runs l = places - l.j

abbrev pub decreases-stuff_runs : goal.decreases-stuff_runs
decreases-stuff_runs l = places - l.j
