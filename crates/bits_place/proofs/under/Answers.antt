-- `bits_place::under` meets its contract: a byte a turn. Assumes nothing.
use mathlib.Core.Path.{◌∙◌}
use Rattle.prelude.proofs.Lists.{filled_more}
use Rattle.prelude.proofs.LoopLaws.{loops}
use Rattle.bits_place.proofs.Masking.{word_under}
use Rattle.bits_place.proofs.under.Goals as goal

pub loop-k-preserved : goal.loop-k-preserved
loop-k-preserved c = let h = c.loop-k in
    let a = c.args in
    filled_more h.invariant c.loop-k-test.true (c.under_byte.ensures ∙ word_under a.a a.z a.q h.k a.x a.old)

pub loop-k-init : goal.loop-k-init
loop-k-init c = search loops
