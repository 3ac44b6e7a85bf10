-- `Block::is_listed` meets its contract. Assumes nothing.
use mathlib.Core.Path.{sym, ◌∙◌}
use Rattle.prelude.proofs.Common.{clash}
use Rattle.edit_spec.proofs.Listing.{tail_test, block_test, listed_tail, listed_block, listed_neither}
use Rattle.edit.proofs.Block.is_listed.Goals.{then-contains, else-contains}
use Rattle.edit.proofs.Block.is_listed.Goals as goal

pub returns-then-contains-2 : goal.returns-then-contains-2
returns-then-contains-2 c = let a = c.args in
    let b = a.self.number in
    let e = c.element_in-e in
    let f = c.first_element-first.ensures in
    let o = c.own_elements-own.ensures in
    c.holds_element.ensures ∙ elim c.if-contains.branch [
      | then-contains w ↦ listed_tail a.self.frames b a.w e.result e.ensures (tail_test b e.result f c.contains.ensures.value) w.if-contains.true
      | else-contains w ↦ listed_block a.self.frames b a.w e.result e.ensures
          (block_test b e.result f o.start o.end w.contains-else-contains.ensures.value) (sym w.value-is ∙ c.if-contains-2.true)
    ]

pub returns-else-contains-2 : goal.returns-else-contains-2
returns-else-contains-2 c = let a = c.args in
    let b = a.self.number in
    let e = c.element_in-e in
    let f = c.first_element-first.ensures in
    let o = c.own_elements-own.ensures in
    elim c.if-contains.branch [
      | then-contains w ↦ absurd (clash (w.value-is ∙ w.if-contains.true) c.if-contains-2.false)
      | else-contains w ↦ c.if-contains-2.false ∙ listed_neither a.self.frames b a.w e.result e.ensures
          (tail_test b e.result f c.contains.ensures.value) w.if-contains.false
          (block_test b e.result f o.start o.end w.contains-else-contains.ensures.value) (sym w.value-is ∙ c.if-contains-2.false)
    ]
