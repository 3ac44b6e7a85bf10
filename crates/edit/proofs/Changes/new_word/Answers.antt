-- `Changes::new_word` meets its contract. Assumes nothing.
use Prim.Native.Nat.{ℕ}
use mathlib.Core.Path.{ap, ◌∙◌}
use Rattle.line_order.specs.Order.{word_in}
use Rattle.hamming_table.proofs.Tabled.{by_word}
use Rattle.edit_spec.specs.Steps.{new_element}
use Rattle.edit_spec.proofs.Remaking.{made_anew}
use Rattle.edit.proofs.Changes.new_word.Goals as goal

pub returns : goal.returns
returns c = let a = c.args in
    c.encode_by.ensures
    ∙ by_word a.self.now.checks.table.now a.self.now.tails.now c.new_element-v.result a.self.now.checks.right a.self.now.closing
    ∙ made_anew a.self.now.block.number a.self.now.bits.now a.self.now.parity.now a.crc a.w (word_in a.capture.now a.w) c.new_element-v.result
    (λ i l. c.new_element-v.ensures i l
    ∙ ap (λ (x : ℕ). new_element a.self.now.block.number a.self.now.bits.now a.self.now.parity.now a.crc x (word_in a.capture.now a.w) i) c.element_in.ensures)
