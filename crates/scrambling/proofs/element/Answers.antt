-- `scrambling::element` meets its contract. Assumes nothing.
use Prim.Native.Nat.{ℕ, ◌+◌}
use mathlib.Core.Path.{◌≡◌, sym, ap, ◌∙◌}
use lib.ListN.{length, get_or}
use mir.Val.{Fits}
use mir.Syntax.{w8}
use Rattle.sizes.specs.Sizes.{word_bytes}
use Rattle.prelude.specs.Lists.{tabulate, from_index}
use Rattle.bits.specs.Bits.{bit_at, pack, Bytes}
use Rattle.bits.proofs.Packing.{bit_of_lt, packs-bit_of}
use Rattle.scrambling.specs.Steps.{added_byte, period_place}
use Rattle.scrambling.proofs.Adding.{packs_added}
use borrow.Author.Rules.{rules}
use Rattle.scrambling.proofs.element.Goals as goal

pub returns : goal.returns
returns c = let a = c.args in
    let v = a.v in
    let period = a.period.now in
    let bytes : Bytes v = λ k. let x : Fits w8 (get_or v k 0) = search rules in x.fits in
    let long : length v ≡ word_bytes = search rules in
    let own : v ≡ pack word_bytes (bit_at v) = sym (packs-bit_of 8 v bytes) ∙ ap (λ (n : ℕ). pack n (bit_at v)) long in
    c.add.ensures ∙ ap (λ (n : ℕ). tabulate n (added_byte v (from_index (bit_at period) c.place.result))) long
    ∙ packs_added word_bytes (bit_at v) (from_index (bit_at period) (period_place a.e)) (from_index (bit_at period) c.place.result) v (bit_of_lt 8 v)
    (λ i. bit_of_lt 8 period _) own (λ i l. ap (λ (k : ℕ). bit_at period (k + i)) c.place.ensures)
