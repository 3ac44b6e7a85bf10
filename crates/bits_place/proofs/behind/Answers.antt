-- `bits_place::behind` meets its contract: the room is filled, and the word cut out of it. Assumes nothing.
use mathlib.Core.Path.{refl, ◌∙◌}
use native.Mathlib.Omega.{arith}
use Rattle.bits.specs.Bits.{bit_at}
use Rattle.prelude.proofs.Lists.{filled_all}
use Rattle.prelude.proofs.LoopLaws.{loops}
use Rattle.bits_place.proofs.Masking.{nothing_placed, room_placed}
use Rattle.bits_place.proofs.behind.Goals as goal

pub returns-then-d-ge-WORD_BITS : goal.returns-then-d-ge-WORD_BITS
returns-then-d-ge-WORD_BITS c = let a = c.args in nothing_placed a.d (bit_at a.field.now) c.if-d-ge-WORD_BITS.true

pub returns : goal.returns
returns c = let a = c.args in
    let e = filled_all 32 c.loop-k.invariant c.loop-k-test.false refl in
    c.word_from.ensures ∙ room_placed a.field.now c.loop-k.x-items e a.d (omega arith)

pub loop-k-init : goal.loop-k-init
loop-k-init c = search loops

pub loop-k-preserved : goal.loop-k-preserved
loop-k-preserved c = search loops
