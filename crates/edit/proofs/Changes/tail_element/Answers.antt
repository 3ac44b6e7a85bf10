-- `Changes::tail_element` meets its contract. Assumes nothing.
use Prim.Native.Nat.{ℕ}
use mathlib.Core.List.{List}
use mathlib.Core.Path.{ap, ◌∙◌}
use Rattle.bits.specs.Bits.{pack}
use Rattle.sizes.specs.Sizes.{parity_from, fec_bits, word_bytes}
use Rattle.edit_spec.specs.Steps.{with_field}
use Rattle.edit_spec.proofs.Remaking.{crc_summed}
use Rattle.edit.proofs.Changes.tail_element.Goals as goal

pub returns : goal.returns
returns c = let a = c.args in
    c.with_field.ensures
    ∙ ap (λ (old : List ℕ). pack word_bytes (with_field parity_from fec_bits a.self.now.parity.now a.e old))
    (crc_summed a.crc a.old c.crc_word.result c.sum.result c.crc_word.ensures c.sum.ensures)
