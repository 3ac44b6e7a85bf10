-- The bits that an edit reads, the bits that change, and what they leave: the change of the CRC. Assumes nothing.
use Prim.Native.Nat.{ℕ, ◌+◌, ◌*◌, ◌/◌, ◌%◌, ◌≤◌, ◌<◌}
use mathlib.Core.Bool.{false}
use mathlib.Core.Path.{◌≡◌, sym, ap, ◌∙◌}
use mathlib.Core.List.{List}
use native.Mathlib.Omega.{arith}
use Rattle.bits.specs.Bits.{bit_at, Bits}
use Rattle.crc.specs.Crc.{crc_rem, crc_shift_n}
use Rattle.crc.proofs.Changes.{crc_alone}
use Rattle.scrambler.specs.Scrambler.{o}
use Rattle.sizes.specs.Sizes.{block_bits, info_bits, fec_bits, fec_blocks, element_bits, super_elements, fec_elements}
use Rattle.line.specs.Frames.{super_from, fec_from}
use Rattle.line.specs.Slots.{slot_of}
use Rattle.line.specs.Words.{element_from, super_in, fec_in}
use Rattle.edit_spec.specs.Edit.{block_from, in_block, replaced, change, crc_change, element_fec, element_local}
use Rattle.edit_spec.proofs.Touching.{block_before, block_past}

-- ---- what is read

-- bit i of FEC block t, from the word that holds it and the sequence
pub received : (W : ℕ → List ℕ) (t i k e : ℕ) → k ≡ fec_bits * (t % fec_blocks) + i → e ≡ super_elements * (t / fec_blocks) + k / element_bits
    → (bit_at (W (slot_of e)) (k % element_bits) + o k) % 2 ≡ fec_in W t i
unfolding fec_in fec_from super_in super_from element_from
received W t i k e p q = rw (q, p)

-- the same by element: bit i of element e is bit 119 m + i of its FEC block
pub received_at : (W : ℕ → List ℕ) (e i : ℕ) → e % super_elements < fec_elements * fec_blocks → i < element_bits
    → fec_in W (element_fec e) (element_bits * element_local e + i) ≡ (bit_at (W (slot_of e)) i + o (element_bits * (e % super_elements) + i)) % 2
unfolding element_fec element_local
received_at W e i h l =
    let k = element_bits * (e % super_elements) + i in
    let t = fec_blocks * (e / super_elements) + e % super_elements / fec_elements in
    let p : i ≡ k % element_bits = omega arith in
    let q : k ≡ fec_bits * (t % fec_blocks) + (element_bits * (e % super_elements % fec_elements) + i) = omega arith in
    let r : e ≡ super_elements * (t / fec_blocks) + k / element_bits = omega arith in
    sym (ap (λ (x : ℕ). (bit_at (W (slot_of e)) x + o k) % 2) p ∙ received W t (element_bits * (e % super_elements % fec_elements) + i) k e q r)

-- ---- what changes

same_twice : (x : ℕ) → (x + x) % 2 ≡ 0
same_twice x = omega arith

pub change_out : (b : ℕ) (bits : List ℕ) (f : ℕ → ℕ) (i : ℕ) → in_block b i ≡ false → change b bits f i ≡ 0
unfolding change replaced
change_out b bits f i h = rw h (same_twice (f i))

pub change_bits : (b : ℕ) (bits : List ℕ) (f : ℕ → ℕ) → Bits (change b bits f)
unfolding change
change_bits b bits f i = omega arith

-- ---- what they leave

-- THE CHANGE OF THE CRC: what any stretch leaves that has the block within it, shifted by what follows it
pub crc_changes : (b : ℕ) (bits : List ℕ) (f : ℕ → ℕ) (p n m : ℕ) → p ≤ block_from b → block_from b + block_bits ≤ p + n → p + (n + m) ≡ info_bits
    → crc_shift_n m (crc_rem (λ i. change b bits f (p + i)) n) ≡ crc_change b bits f
unfolding crc_change
crc_changes b bits f p n m h l e =
    sym (ap (crc_rem (change b bits f)) (sym e)
    ∙ crc_alone (change b bits f) p n m (λ i k. change_out b bits f i (block_before b i (omega arith)))
    (λ i k. change_out b bits f (p + (n + i)) (block_past b (p + (n + i)) (omega arith))))
