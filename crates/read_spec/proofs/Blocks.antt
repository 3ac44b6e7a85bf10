-- The tests of FEC blocks and pad: by the bytes of a super frame they are those of the capture, and five blocks more. Assumes nothing.
use Prim.Native.Nat.{ℕ, zero, suc, ◌+◌, ◌*◌, ◌/◌, ◌%◌, ◌≤◌, ◌<◌}
use Rattle.std.specs.Prelude.{Option, None}
use mathlib.Core.Bool.{Bool, true, false, not, true≢false}
use mathlib.Core.Path.{◌≡◌, refl, sym, ap, ap₂, ◌∙◌}
use mathlib.Core.List.{List}
use native.Mathlib.Nat.{zero-div}
use native.Mathlib.Omega.{arith}
use borrow.Author.Tests.{eq-eqb, ne_eqb, eqb-true, not-false}
use lib.Dec.{eqb}
use lib.ListN.{length, get_or}
use Rattle.prelude.specs.Lists.{from_index}
use Rattle.bits.specs.Bits.{num, digit, bit_at, byte_of, pack, Bits}
use Rattle.prelude.specs.Loops.{upto, first}
use Rattle.prelude.proofs.Common.{by_bound}
use Rattle.prelude.proofs.Lists.{get_d_tabulate}
use Rattle.answer.specs.Steps.{first_found}
use Rattle.bits.proofs.Numbers.{num_ext, num-zero, digit-num}
use Rattle.bits.proofs.Packing.{bit_of_lt, bit_of_past, length-packs}
use Rattle.crc.proofs.Changes.{crc_ext}
use Rattle.sizes.specs.Sizes.{info_bits, crc_bits, mbas_bits, mbas_from, fec_bits, fec_blocks, pad_from, pad_bits, super_bytes}
use Rattle.line.specs.Fec.{mbas_of}
use Rattle.line.specs.Words.{super_in, fec_in}
use Rattle.read_spec.specs.Read.{repaired, all_zero, mbas_differs, crc_differs, pad_differs}
use Rattle.read_spec.specs.Steps.{sought_of, frame_of, mbas_off, crc_off, pad_off, block_taken, frames_to}
use Rattle.read_spec.specs.declared.BlockTally.{BlockTally}
use Rattle.read_spec.proofs.Searching.{first_more, zero_all, zero_each}
use Rattle.read_spec.proofs.Places.{frame_bit, frame_fec}

-- ---- by the bytes of a super frame

mbas_same : (m0 : ℕ) (cap : List ℕ) (f b : ℕ) → b < fec_blocks → mbas_off m0 (frame_of cap f) (fec_blocks * f + b) b ≡ mbas_differs m0 cap (fec_blocks * f + b)
unfolding mbas_off mbas_differs
mbas_same m0 cap f b h =
    ap (λ (x : ℕ). not (eqb x (mbas_of m0 (fec_blocks * f + b))))
    (num_ext mbas_bits (bit_at (frame_of cap f)) (fec_in (repaired cap) (fec_blocks * f + b)) (fec_bits * b + mbas_from) mbas_from
    (λ j l. ap (bit_at (frame_of cap f)) (omega arith) ∙ frame_fec cap f b (mbas_from + j) h (omega arith)))

crc_same : (cap : List ℕ) (f b : ℕ) → b < fec_blocks → crc_off (frame_of cap f) b ≡ crc_differs cap (fec_blocks * f + b)
unfolding crc_off crc_differs
crc_same cap f b h =
    ap₂ (λ (x y : ℕ). not (eqb x y))
    (num_ext crc_bits (bit_at (frame_of cap f)) (fec_in (repaired cap) (fec_blocks * f + b)) (fec_bits * b + info_bits) info_bits
    (λ j l. ap (bit_at (frame_of cap f)) (omega arith) ∙ frame_fec cap f b (info_bits + j) h (omega arith)))
    (crc_ext info_bits (from_index (bit_at (frame_of cap f)) (fec_bits * b)) (fec_in (repaired cap) (fec_blocks * f + b)) (λ i l. frame_fec cap f b i h (omega arith)))

pad_same : (cap : List ℕ) (f : ℕ) → pad_off (frame_of cap f) ≡ pad_differs cap f
unfolding pad_off pad_differs
pad_same cap f =
    ap (λ (x : ℕ). not (eqb x 0))
    (num_ext pad_bits (bit_at (frame_of cap f)) (super_in (repaired cap) f) pad_from pad_from (λ j l. frame_bit cap f (pad_from + j) (omega arith)))

-- ---- blocks and super frames taken in

-- k blocks of super frame f
abbrev blocks_to : ℕ → List ℕ → ℕ → ℕ → BlockTally
blocks_to m0 cap f k = record {
  mbas = first_found (mbas_differs m0 cap) (fec_blocks * f + k);
  crc = first_found (crc_differs cap) (fec_blocks * f + k);
  pad = first_found (pad_differs cap) f;
}

block_more : (m0 : ℕ) (cap : List ℕ) (f k : ℕ) → k < fec_blocks → block_taken m0 (frame_of cap f) f k (blocks_to m0 cap f k) ≡ blocks_to m0 cap f (k + 1)
unfolding block_taken
block_more m0 cap f k h =
    let t = fec_blocks * f + k in
    let next : 5 * f + k + 1 ≡ 5 * f + (k + 1) = omega arith in
    let a : sought_of (first_found (mbas_differs m0 cap) t) t (mbas_off m0 (frame_of cap f) t k) ≡ first_found (mbas_differs m0 cap) (5 * f + (k + 1)) = ap
    (sought_of (first_found (mbas_differs m0 cap) t) t) (mbas_same m0 cap f k h) ∙ first_more (mbas_differs m0 cap) t ∙ ap (first_found (mbas_differs m0 cap)) next in
    let b : sought_of (first_found (crc_differs cap) t) t (crc_off (frame_of cap f) k) ≡ first_found (crc_differs cap) (5 * f + (k + 1)) = ap
    (sought_of (first_found (crc_differs cap) t) t) (crc_same cap f k h) ∙ first_more (crc_differs cap) t ∙ ap (first_found (crc_differs cap)) next in
    ap₂ (λ (x y : Option ℕ). record { mbas = x; crc = y; pad = first_found (pad_differs cap) f }) a b

blocks_none : (m0 : ℕ) (cap : List ℕ) (f : ℕ) → frames_to m0 cap f ≡ blocks_to m0 cap f 0
blocks_none m0 cap f = let e : 5 * f + 0 ≡ 5 * f = omega arith in rw e

blocks_taken : (m0 : ℕ) (cap : List ℕ) (f k : ℕ) → k ≤ fec_blocks → upto (block_taken m0 (frame_of cap f) f) (frames_to m0 cap f) k ≡ blocks_to m0 cap f k
unfolding upto
blocks_taken m0 cap f zero h = blocks_none m0 cap f
blocks_taken m0 cap f (suc k) h =
    ap (block_taken m0 (frame_of cap f) f k) (blocks_taken m0 cap f k (omega arith)) ∙ block_more m0 cap f k h ∙ ap (blocks_to m0 cap f) (omega arith)

-- super frame f is taken in
pub frame_more : (m0 : ℕ) (cap s : List ℕ) (f : ℕ) (x y : BlockTally) (pad : Option ℕ) → s ≡ frame_of cap f → x ≡ frames_to m0 cap f → y ≡ upto (block_taken m0 s f) x 5
    → pad ≡ sought_of y.pad f (pad_off s) → ◌≡◌ {A = BlockTally} (record { mbas = y.mbas; crc = y.crc; pad = pad }) (frames_to m0 cap (f + 1))
frame_more m0 cap s f x y pad es ex ey ep =
    let z : y ≡ blocks_to m0 cap f 5 = ey ∙ ap₂ (λ (l : List ℕ) (t : BlockTally). upto (block_taken m0 l f) t 5) es ex ∙ blocks_taken m0 cap f 5 (omega arith) in
    let p : pad ≡ first_found (pad_differs cap) (f + 1) = ep ∙ ap₂ (λ (l : List ℕ) (t : BlockTally). sought_of t.pad f (pad_off l)) es z
    ∙ ap (sought_of (first_found (pad_differs cap) f) f) (pad_same cap f) ∙ first_more (pad_differs cap) f in
    let next : 5 * f + 5 ≡ 5 * (f + 1) = omega arith in
    let a : y.mbas ≡ first_found (mbas_differs m0 cap) (5 * (f + 1)) = ap (λ (t : BlockTally). t.mbas) z ∙ ap (first_found (mbas_differs m0 cap)) next in
    let b : y.crc ≡ first_found (crc_differs cap) (5 * (f + 1)) = ap (λ (t : BlockTally). t.crc) z ∙ ap (first_found (crc_differs cap)) next in
    rw (a, b, p)

pub frames_none : (m0 : ℕ) (cap : List ℕ) → ◌≡◌ {A = BlockTally} (record { mbas = None; crc = None; pad = None }) (frames_to m0 cap 0)
unfolding first_found first
frames_none m0 cap = refl

-- ---- the pad, a byte at a time

-- a number is zero only where its digits are
digit_none : (w : ℕ) (f : ℕ → ℕ) (a j : ℕ) → Bits f → j < w → num w f a ≡ 0 → f (a + j) ≡ 0
unfolding digit
digit_none w f a j b h e = sym (digit-num w f a j b h) ∙ rw (e, zero-div)

unfoldable pub pad_byte : List ℕ → ℕ → Bool
pad_byte s k = not (eqb (num 8 (bit_at s) (pad_from + 8 * k)) 0)

pub pad_byte_law : (s : List ℕ) (k x : ℕ) → x ≡ num 8 (bit_at s) (pad_from + 8 * k) → x ≡ 0 → pad_byte s k ≡ false
unfolding pad_byte
pad_byte_law s k x e z = rw (eq-eqb (num 8 (bit_at s) (pad_from + 8 * k)) 0 (sym e ∙ z))

pub pad_here : (s : List ℕ) (k x : ℕ) → length s ≡ super_bytes → k < 90 → x ≡ num 8 (bit_at s) (pad_from + 8 * k) → (x ≡ 0 → ⊥) → true ≡ pad_off s
unfolding pad_off
pad_here s k x len h e n = rw (ne_eqb (num pad_bits (bit_at s) pad_from) 0 (λ z. n (e ∙ num-zero 8 (bit_at s) (pad_from + 8 * k) (each z))))
  where
    each : num pad_bits (bit_at s) pad_from ≡ 0 → (j : ℕ) → j < 8 → bit_at s (pad_from + 8 * k + j) ≡ 0
    each z j l = by_bound pad_bits (8 * k + j)
        (λ m. ap (bit_at s) (omega arith) ∙ digit_none pad_bits (bit_at s) pad_from (8 * k + j) (bit_of_lt 8 s) m z)
        (λ m. bit_of_past 8 s (pad_from + 8 * k + j) (omega arith))

pub pad_zero : (s : List ℕ) → ((k : ℕ) → k < 90 → pad_byte s k ≡ false) → false ≡ pad_off s
unfolding pad_off pad_byte
pad_zero s h = rw (eq-eqb (num pad_bits (bit_at s) pad_from) 0 (num-zero pad_bits (bit_at s) pad_from each))
  where
    each : (j : ℕ) → j < pad_bits → bit_at s (pad_from + j) ≡ 0
    each j l =
        let q : pad_from + j ≡ pad_from + 8 * (j / 8) + j % 8 = omega arith in
        ap (bit_at s) q ∙ digit_none 8 (bit_at s) (pad_from + 8 * (j / 8)) (j % 8) (bit_of_lt 8 s) (omega arith) (byte (j / 8) (omega arith))
      where
        byte : (k : ℕ) → k < 90 → num 8 (bit_at s) (pad_from + 8 * k) ≡ 0
        byte k m = eqb-true (num 8 (bit_at s) (pad_from + 8 * k)) 0 (not-false (eqb (num 8 (bit_at s) (pad_from + 8 * k)) 0) (h k m))

zero_is : (x : ℕ) → ((x ≡ 0 → ⊥) → ⊥) → x ≡ 0
zero_is zero n = refl
zero_is (suc x) n = absurd (n (λ e. absurd (omega (arith, e))))

-- the pad's bytes, copied out: it is not zero where one of them is not
pub pad_copied : (s bytes : List ℕ) → length s ≡ super_bytes → bytes ≡ pack 90 (from_index (bit_at s) pad_from) → not (all_zero bytes) ≡ pad_off s
pad_copied s bytes len e = by (all_zero bytes) refl (pad_off s) refl
  where
    at : (k : ℕ) → k < 90 → get_or bytes k 0 ≡ num 8 (bit_at s) (pad_from + 8 * k)
    at k h = ap (λ (l : List ℕ). get_or l k 0) e ∙ get_d_tabulate 0 90 (byte_of (from_index (bit_at s) pad_from)) k h
        ∙ num_ext 8 (from_index (bit_at s) pad_from) (bit_at s) (8 * k) (pad_from + 8 * k) (λ j l. ap (bit_at s) (omega arith))

    long : length bytes ≡ 90
    long = ap length e ∙ length-packs 8 90 (from_index (bit_at s) pad_from)

    none : pad_off s ≡ false → (k : ℕ) → k < length bytes → get_or bytes k 0 ≡ 0
    none q k h = zero_is (get_or bytes k 0)
        (λ n. true≢false (pad_here s k (get_or bytes k 0) len (omega (arith, long)) (at k (omega (arith, long))) n ∙ q))

    by : (z : Bool) → all_zero bytes ≡ z → (p : Bool) → pad_off s ≡ p → not z ≡ p
    by true z p q = pad_zero s (λ k h. pad_byte_law s k (get_or bytes k 0) (at k h) (zero_each bytes z k)) ∙ q
    by false z true q = refl
    by false z false q = absurd (true≢false (zero_all bytes (none q) ∙ z))
