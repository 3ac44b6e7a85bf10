-- `entry` meets its contract: after j turns r is what the first j bits leave. Assumes nothing.
use mathlib.Core.Path.{◌≡◌, refl}
use native.Mathlib.Omega.{arith}
use Rattle.bits.specs.Bits.{digit}
use Rattle.crc.specs.Remainder.{rem_from}
use Rattle.crc.proofs.Changes.{crc_rem_more}
use Rattle.crc.proofs.entry.Goals as goal

pub loop-j-init : goal.loop-j-init
unfolding rem_from
loop-j-init c = (omega arith, refl)

pub loop-j-preserved : goal.loop-j-preserved
unfolding digit
loop-j-preserved c = let h = c.loop-j in
    (omega arith, crc_rem_more 0 (digit 8 _) h.j h.invariant.1 refl c.take_bit-r.ensures)

pub returns : goal.returns
returns c = let e : c.loop-j.j ≡ 8 = omega arith in rw e at c.loop-j.invariant.1
