-- `Changes::crc_change` meets its contract: an element a turn, and then the zeros at once. Assumes nothing.
use Prim.Native.Nat.{ℕ, ◌+◌, ◌-◌, ◌*◌, ◌<◌}
use mathlib.Core.Path.{◌≡◌, ap, ◌∙◌}
use native.Mathlib.Omega.{arith}
use Rattle.bits.specs.Bits.{bit_at}
use Rattle.crc.specs.Remainder.{rem_from}
use Rattle.crc.specs.Crc.{crc_rem, crc_shift_n}
use Rattle.crc.proofs.Changes.{crc_rem_piece}
use Rattle.line_order.specs.Order.{word_in}
use Rattle.line.specs.Words.{fec_in}
use Rattle.sizes.specs.Sizes.{info_bits, element_bits, fec_elements}
use Rattle.edit_spec.specs.Edit.{fec_of, change, element_local}
use Rattle.edit_spec.proofs.Listing.{own_element, own_fec, own_in}
use Rattle.edit_spec.proofs.Changing.{crc_changes}
use Rattle.edit.proofs.Changes.crc_change.Invariants.{first_of, end_of, changes}
use Rattle.edit.proofs.Changes.crc_change.Goals as goal

pub loop-m-init : goal.loop-m-init
unfolding rem_from
loop-m-init c = let b = c.args.self.now.block.number in
    let o = c.own_elements-own.ensures in
    let e : element_bits * (c.own_elements-own.result.start - first_of b) ≡ 0 = omega (arith, o.start) in
    (omega (arith, o.start), omega (arith, o.start), rw e)

pub changed_element-requires : goal.changed_element-requires
changed_element-requires c = let h = c.loop-m in
    let b = c.args.self.now.block.number in
    let l : h.m < fec_elements = omega (arith, c.loop-m-test.true, c.own_elements-own.ensures.end) in
    rw c.first_element-first.ensures (own_in 8 b h.m (omega (arith, c.args.self.now.block.few, c.args.self.now.block.held)) l, own_element b h.m l, (own_fec b h.m l).0)

pub loop-m-preserved : goal.loop-m-preserved
loop-m-preserved c = let h = c.loop-m in
    let a = c.args in
    let b = a.self.now.block.number in
    let n = element_bits * (h.m - first_of b) in
    let v = c.changed_element in
    let l : h.m < fec_elements = omega (arith, c.loop-m-test.true, c.own_elements-own.ensures.end) in
    let q : n + element_bits ≡ element_bits * (h.m + 1 - first_of b) = omega (arith, h.invariant.0) in
    let place : (i : ℕ) → element_bits * h.m + i ≡ element_bits * first_of b + (n + i) = λ i. omega (arith, h.invariant.0) in (
      omega (arith, h.invariant.0),
      omega (arith, c.loop-m-test.true, c.own_elements-own.ensures.end),
      crc_rem_piece (changes b a.self.now.bits.now a.capture.now) (bit_at v.result) n element_bits h.invariant.2
          (λ i k. v.ensures i k
          ∙ ap (λ (x : ℕ). change b a.self.now.bits.now (fec_in (word_in a.capture.now) (fec_of b)) (element_bits * x + i))
          (ap element_local (ap (λ (x : ℕ). x + h.m) c.first_element-first.ensures) ∙ (own_fec b h.m l).1)
          ∙ ap (change b a.self.now.bits.now (fec_in (word_in a.capture.now) (fec_of b))) (place i))
          c.take_element-r.ensures
          ∙ ap (crc_rem (changes b a.self.now.bits.now a.capture.now)) q,
    )

pub returns : goal.returns
returns c = let h = c.loop-m in
    let a = c.args in
    let b = a.self.now.block.number in
    let e : h.m ≡ end_of b = omega (arith, h.invariant.1, c.loop-m-test.false, c.own_elements-own.ensures.end) in
    c.shifted.ensures
    ∙ ap (λ (x : ℕ). crc_shift_n (info_bits - element_bits * x) h.r) c.own_elements-own.ensures.end
    ∙ ap (crc_shift_n (info_bits - element_bits * end_of b))
    (h.invariant.2 ∙ ap (λ (x : ℕ). crc_rem (changes b a.self.now.bits.now a.capture.now) (element_bits * (x - first_of b))) e)
    ∙ crc_changes b a.self.now.bits.now (fec_in (word_in a.capture.now) (fec_of b)) (element_bits * first_of b) (element_bits * (end_of b - first_of b))
    (info_bits - element_bits * end_of b) (omega arith) (omega arith) (omega arith)
