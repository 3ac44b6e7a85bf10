-- `buffer_sizes::groups` meets its contract: the number of groups is the one counted, and no more than there are places. Assumes nothing.
use mathlib.Core.Path.{ap}
use native.Mathlib.Omega.{arith}
use Rattle.sizes.specs.Sizes.{group_bytes}
use Rattle.buffer_sizes.proofs.groups.Goals as goal

pub returns : goal.returns
returns c = let d = c.data_in-d.ensures in
    record { is = ap group_bytes d.is; fits = omega (arith, d.few) }
