-- `read::Reader::received` meets its contract: before element l the bytes that begin in the elements before it are there. Assumes nothing.
use Prim.Native.Nat.{ℕ, ◌%◌, ◌+◌, ◌-◌}
use mathlib.Core.List.{List}
use mathlib.Core.Path.{refl, ap, ap₂, ◌≡◌, ◌∙◌}
use native.Mathlib.Omega.{arith}
use lib.ListN.{take, drop, length, get_or}
use Rattle.prelude.specs.Lists.{from_index}
use Rattle.bits.specs.Bits.{bit_at, pack}
use Rattle.prelude.proofs.Lists.{filled_none, filled_all, part_long}
use Rattle.sizes.specs.Sizes.{super_bytes, word_bytes}
use Rattle.line.specs.Slots.{slot_of}
use Rattle.read_spec.specs.Read.{repaired}
use Rattle.read_spec.specs.Steps.{followed, first_whole_byte}
use Rattle.read_spec.proofs.Places.{element_byte, bytes_filled}
use borrow.Author.Rules.{rules}
use Rattle.read.proofs.Reader.received.Goals as goal

pub loop-l-init : goal.loop-l-init
loop-l-init c = (filled_none, c.element-here.ensures ∙ ap (λ (e : ℕ). repaired c.args.self.now.capture.now (slot_of e)) (omega arith), omega arith)

pub loop-l-preserved : goal.loop-l-preserved
loop-l-preserved c = let h = c.loop-l in
    let a = c.args in
    let k = first_whole_byte (h.l + 1) - first_whole_byte h.l in
    let x = c.from_bit in
    let next = c.element-next.ensures in
    let long : length a.out.now ≡ super_bytes = search rules in
    let len : length (take k (drop (first_whole_byte h.l) h.out)) ≡ k = part_long (first_whole_byte h.l) k h.out
    (omega (arith, h.invariant.0.len, long, c.loop-l-test.true)) in (
      bytes_filled k (first_whole_byte (h.l + 1)) (length (take k (drop (first_whole_byte h.l) h.out))) (λ j. get_or x.result j 0)
          h.invariant.0 (omega arith) (omega (arith, long, c.loop-l-test.true)) len c.put_bytes.ensures
          (λ j m. element_byte (repaired a.self.now.capture.now) x.result a.f h.l k j
          (x.ensures ∙ ap (λ (v : List ℕ). pack word_bytes (from_index (bit_at v) (h.l % 8))) (c.follow.ensures ∙ ap₂ followed h.invariant.1 next))
          refl m),
      next,
      omega arith,
    )

pub returns : goal.returns
returns c = filled_all super_bytes c.loop-l.invariant.0 (omega arith) (search rules)
