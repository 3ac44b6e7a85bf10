-- `edit::take_element` meets its contract: a bit a turn. Assumes nothing.
use Prim.Native.Nat.{◌<◌}
use mathlib.Core.Path.{◌≡◌, refl, ap, ◌∙◌}
use native.Mathlib.Nat.{mod-eq_of_lt}
use native.Mathlib.Omega.{arith}
use Rattle.bits.specs.Bits.{bit_at}
use Rattle.bits.proofs.Packing.{bit_of_lt}
use Rattle.crc.specs.Remainder.{rem_from}
use Rattle.crc.specs.Crc.{width, poly, crc_step}
use Rattle.crc.proofs.Changes.{crc_rem_more}
use Rattle.sizes.specs.Sizes.{element_bits}
use Rattle.edit.proofs.take_element.Goals as goal

pub loop-i-init : goal.loop-i-init
unfolding rem_from
loop-i-init c = (omega arith, refl)

pub loop-i-preserved : goal.loop-i-preserved
loop-i-preserved c = let h = c.loop-i in
    let a = c.args in
    let b = c.bit_at in
    let small : b.result < 2 = rw b.ensures (bit_of_lt 8 a.v h.i) in
    (omega arith, crc_rem_more a.r (bit_at a.v) h.i h.invariant.1 b.ensures (c.take-x.ensures ∙ ap (crc_step h.x) (mod-eq_of_lt small)))

pub returns : goal.returns
returns c = let h = c.loop-i in
    let a = c.args in
    let e : h.i ≡ element_bits = omega (arith, h.invariant.0, c.loop-i-test.false) in
    h.invariant.1 ∙ ap (rem_from width poly a.r (bit_at a.v)) e
