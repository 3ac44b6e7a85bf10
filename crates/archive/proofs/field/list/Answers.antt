-- `archive::field::list` meets its contract: an entry a turn. Assumes nothing.
use native.Mathlib.Omega.{arith}
use mathlib.Core.Path.{◌∙◌}
use Rattle.prelude.proofs.Lists.{filled_more, filled_to}
use Rattle.prelude.proofs.LoopLaws.{loops}
use Rattle.archive.proofs.field.list.Goals as goal

pub loop-e-preserved : goal.loop-e-preserved
loop-e-preserved c = let l = c.loop-e in
    (filled_more l.invariant.0 (omega arith) (c.number_at.ensures.is ∙ rw c.entry_from.ensures), omega arith)

pub returns : goal.returns
returns c = (filled_to c.args.n c.loop-e.invariant.0 (omega arith)).is

pub loop-e-init : goal.loop-e-init
loop-e-init c = search loops
