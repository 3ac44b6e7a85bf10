-- `archive::field::number_at` meets its contract: a byte a turn. Assumes nothing.
use mathlib.Core.Path.{◌∙◌}
use native.Mathlib.Omega.{arith}
use Rattle.archive_spec.proofs.Fields.{number_none, number_next, number_all}
use Rattle.prelude.proofs.LoopLaws.{loops}
use Rattle.archive.proofs.field.number_at.Goals as goal

pub loop-j-preserved : goal.loop-j-preserved
loop-j-preserved c = let w = c.wide.ensures in
    number_next c.loop-j.invariant (omega arith) (omega arith) (w.same ∙ c.byte_at.ensures) w.small

pub loop-j-init : goal.loop-j-init
loop-j-init c = search (number_none, number_next, number_all, loops)

pub returns : goal.returns
returns c = search (number_none, number_next, number_all, loops)
