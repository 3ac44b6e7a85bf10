-- `hamming::repair` meets its contract: what the callees say, put together. Assumes nothing.
use mathlib.Core.Path.{ap, ap₂, ◌∙◌}
use Rattle.hamming_matrix.specs.Columns.{position_of}
use Rattle.hamming.specs.Repair.{repair_at, repair_of}
use Rattle.hamming.proofs.Words.{checks_lt}
use Rattle.hamming.proofs.repair.Goals as goal

pub position-requires : goal.position-requires
position-requires c = rw c.checks-c.ensures (checks_lt c.args.w)

pub returns : goal.returns
unfolding repair_of
returns c = let w = c.args.w in
    c.repair_at.ensures
    ∙ ap₂ (repair_at w) c.checks-c.ensures (c.position.ensures ∙ ap position_of c.checks-c.ensures)
