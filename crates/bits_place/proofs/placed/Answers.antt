-- `bits_place::placed` meets its contract. Assumes nothing.
use mathlib.Core.Path.{◌∙◌}
use Rattle.bits.specs.Bits.{bit_at}
use Rattle.bits_place.proofs.Masking.{placed_from, placed_behind}
use Rattle.bits_place.proofs.placed.Goals as goal

pub returns-then-a-q : goal.returns-then-a-q
returns-then-a-q c = let a = c.args in
    c.word_from.ensures ∙ placed_from a.a a.q (bit_at a.field.now) c.if-a-q.true

pub returns : goal.returns
returns c = let a = c.args in
    c.behind.ensures ∙ placed_behind a.a a.q (bit_at a.field.now) c.if-a-q.false
