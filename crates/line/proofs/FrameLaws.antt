-- The laws of super frames and elements: there and back again. Assumes nothing.
use Prim.Native.Nat.{ℕ, ◌+◌, ◌*◌, ◌/◌, ◌%◌, ◌≤◌, ◌<◌}
use mathlib.Core.Path.{◌≡◌, ap, ◌∙◌}
use native.Mathlib.Nat.{zero-add}
use native.Mathlib.Omega.{arith}
use borrow.Author.Tests.{lt-ltb, le-ltb}
use lib.Dec.{ltb}
use Rattle.bits.specs.Bits.{Bits}
use Rattle.prelude.proofs.Common.{cond_bit}
use Rattle.scrambler.specs.Scrambler.{o}
use Rattle.sizes.specs.Sizes.{fec_bits, fec_blocks, pad_from, super_bits, element_bits, super_elements, fec_elements}
use Rattle.line.specs.Frames.{super_of, element_of, super_from, fec_from}

scrambled_twice : (a b : ℕ) → a < 2 → ((a + b) % 2 + b) % 2 ≡ a
scrambled_twice a b h = omega arith

-- ---- super frames and their elements

pub element_bits_law : (S : ℕ → ℕ → ℕ) (e : ℕ) → Bits (element_of S e)
unfolding element_of
element_bits_law S e i = omega arith

-- bit i of local element l is bit 119 l + i of its super frame
pub element_at : (S : ℕ → ℕ → ℕ) (f l i : ℕ) → l < super_elements → element_of S
    (super_elements * f + l) i ≡ (S f (element_bits * l + i) + o (element_bits * l + i)) % 2
unfolding element_of
element_at S f l i h =
    let p : (super_elements * f + l) / super_elements ≡ f = omega arith in
    let q : (super_elements * f + l) % super_elements ≡ l = omega arith in
    rw (p, q)

-- descrambled and scrambled, for elements E that are those of S on their 119 bits
pub super_back : (S E : ℕ → ℕ → ℕ) (f k : ℕ) → k < super_bits → S f k < 2
    → ((i : ℕ) → i < element_bits → E (super_elements * f + k / element_bits) i ≡ element_of S (super_elements * f + k / element_bits) i)
    → super_from E f k ≡ S f k
unfolding super_from
super_back S E f k h b same =
    let p : element_bits * (k / element_bits) + k % element_bits ≡ k = omega arith in
    rw (same (k % element_bits) (omega arith), element_at S f (k / element_bits) (k % element_bits) (omega arith), p) (scrambled_twice (S f k) (o k) b)

-- ---- super frames and their FEC blocks

pub super_pad : (F : ℕ → ℕ → ℕ) (f k : ℕ) → pad_from ≤ k → super_of F f k ≡ 0
unfolding super_of
super_pad F f k h = rw (le-ltb k pad_from h)

-- bit i of FEC block b of super frame f
pub super_fec : (F : ℕ → ℕ → ℕ) (f b i : ℕ) → b < fec_blocks → i < fec_bits → super_of F f (fec_bits * b + i) ≡ F (fec_blocks * f + b) i
unfolding super_of
super_fec F f b i hb hi =
    let p : (fec_bits * b + i) / fec_bits ≡ b = omega arith in
    let q : (fec_bits * b + i) % fec_bits ≡ i = omega arith in
    rw (lt-ltb (fec_bits * b + i) pad_from (omega arith), p, q)

pub super_bits_law : (F : ℕ → ℕ → ℕ) (f : ℕ) → ((t : ℕ) → Bits (F t)) → Bits (super_of F f)
unfolding super_of
super_bits_law F f h k =
    let t = fec_blocks * f + k / fec_bits in cond_bit (ltb k pad_from) (F t (k % fec_bits)) 0 (h t (k % fec_bits)) (omega arith)

-- for super frames S that are those of F
pub fec_back : (F S : ℕ → ℕ → ℕ) (t i : ℕ) → i < fec_bits → ((k : ℕ) → k < super_bits → S (t / fec_blocks) k ≡ super_of F (t / fec_blocks) k) → fec_from S t i ≡ F t i
unfolding fec_from
fec_back F S t i h same =
    let p : fec_blocks * (t / fec_blocks) + t % fec_blocks ≡ t = omega arith in
    same (fec_bits * (t % fec_blocks) + i) (omega arith) ∙ super_fec F (t / fec_blocks) (t % fec_blocks) i (omega arith) h ∙ ap (λ (x : ℕ). F x i) p

-- ---- no element belongs to two FEC blocks

-- bit i of local element m of FEC block b of super frame f
pub element_fec_law : (F : ℕ → ℕ → ℕ) (f b m i : ℕ) → b < fec_blocks → m < fec_elements → i < element_bits
    → element_of (super_of F) (super_elements * f + (fec_elements * b + m))
    i ≡ (F (fec_blocks * f + b) (element_bits * m + i) + o (element_bits * (fec_elements * b + m) + i)) % 2
element_fec_law F f b m i hb hm hi =
    let p : element_bits * (fec_elements * b + m) + i ≡ fec_bits * b + (element_bits * m + i) = omega arith in
    element_at (super_of F) f (fec_elements * b + m) i (omega arith)
    ∙ ap (λ (x : ℕ). (x + o (element_bits * (fec_elements * b + m) + i)) % 2) (ap (super_of F f) p ∙ super_fec F f b (element_bits * m + i) hb (omega arith))

-- the last six elements are pad
pub element_pad : (F : ℕ → ℕ → ℕ) (f m i : ℕ) → m < 6 → i < element_bits
    → element_of (super_of F) (super_elements * f + (fec_elements * fec_blocks + m)) i ≡ o (element_bits * (fec_elements * fec_blocks + m) + i) % 2
element_pad F f m i hm hi =
    element_at (super_of F) f (fec_elements * fec_blocks + m) i (omega arith)
    ∙ ap (λ (x : ℕ). (x + o (element_bits * (fec_elements * fec_blocks + m) + i)) % 2)
    (super_pad F f (element_bits * (fec_elements * fec_blocks + m) + i) (omega arith))
    ∙ ap (λ (x : ℕ). x % 2) (zero-add (o (element_bits * (fec_elements * fec_blocks + m) + i)))
