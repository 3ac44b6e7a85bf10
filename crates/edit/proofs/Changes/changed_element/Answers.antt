-- `Changes::changed_element` meets its contract. Assumes nothing.
use mathlib.Core.Path.{ap, ◌∙◌}
use Rattle.line_order.specs.Order.{word_in}
use Rattle.edit_spec.proofs.Remaking.{changed_bit}
use Rattle.edit.proofs.Changes.changed_element.Goals as goal

pub returns : goal.returns
returns c i l = let a = c.args in
    changed_bit a.self.now.block.number a.self.now.bits.now a.capture.now c.word_in-old.result c.block_element.result c.sum.result a.e i c.requires.1 c.requires.2 l
    (c.word_in-old.ensures ∙ ap (word_in a.capture.now) c.slot.ensures) c.block_element.ensures c.sum.ensures
