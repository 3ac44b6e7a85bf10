-- `remainder` meets its contract: the bytes are folded in. Assumes nothing.
use native.Mathlib.Omega.{arith}
use Rattle.prelude.proofs.LoopLaws.{folded_more, loops}
use Rattle.crc.specs.Steps.{byte_step}
use Rattle.crc.proofs.remainder.Goals as goal

pub loop-x-init : goal.loop-x-init
loop-x-init c = search loops

pub loop-x-preserved : goal.loop-x-preserved
unfolding byte_step
loop-x-preserved c = (omega arith, folded_more c.loop-x.invariant.1 c.take_byte-r.ensures)
