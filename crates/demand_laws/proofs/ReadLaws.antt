-- The road back: from the words of a coded capture to its FEC blocks. Assumes nothing.
use Prim.Native.Nat.{ℕ, ◌+◌, ◌*◌, ◌/◌, ◌<◌}
use mathlib.Core.Path.{◌≡◌, ap, ◌∙◌}
use mathlib.Core.List.{List}
use native.Mathlib.Omega.{arith}
use lib.ListN.{length}
use Rattle.bits.specs.Bits.{bit_at, Bits}
use Rattle.hamming.proofs.Words.{coded_bit, coded_long}
use Rattle.sizes.specs.Sizes.{fec_bits, fec_blocks, super_bits, element_bits, super_elements, words, word_bytes}
use Rattle.line.specs.Frames.{super_of, element_of}
use Rattle.line.specs.Slots.{slot_of, slot_bit}
use Rattle.line.specs.Words.{words_of, element_from, super_in, fec_in}
use Rattle.line.proofs.FrameLaws.{element_bits_law, super_back, super_bits_law, fec_back}
use Rattle.line.proofs.SlotLaws.{slot_lt, slot_bit_law, slot_bits}

module _ (N : ℕ) (F : ℕ → ℕ → ℕ) where
  pub words_long : (w : ℕ) → length (words_of N F w) ≡ word_bytes
  unfolding words_of
  words_long w = coded_long (slot_bit N (element_of (super_of F)) w)

  -- what a word of the capture holds is made of bits
  pub held_bits : (w : ℕ) → Bits (slot_bit N (element_of (super_of F)) w)
  held_bits w = slot_bits N (element_of (super_of F)) w (λ e. element_bits_law (super_of F) e)

  module _ (W : ℕ → List ℕ) (same : (w : ℕ) → w < words N → W w ≡ words_of N F w) where
    pub element_read : (e i : ℕ) → e < super_elements * N → i < element_bits → element_from W e i ≡ element_of (super_of F) e i
    unfolding element_from words_of
    element_read e i h l =
        ap (λ (s : List ℕ). bit_at s i) (same (slot_of e) (slot_lt N e h))
        ∙ coded_bit (slot_bit N (element_of (super_of F)) (slot_of e)) i (held_bits (slot_of e)) l
        ∙ slot_bit_law N (element_of (super_of F)) e i h

    module _ (bits : (t : ℕ) → Bits (F t)) where
      pub super_read : (f k : ℕ) → f < N → k < super_bits → super_in W f k ≡ super_of F f k
      unfolding super_in
      super_read f k h l =
          super_back (super_of F) (element_from W) f k l (super_bits_law F f bits k)
          (λ i m. element_read (super_elements * f + k / element_bits) i (omega arith) m)

      pub fec_read : (t i : ℕ) → t < fec_blocks * N → i < fec_bits → fec_in W t i ≡ F t i
      unfolding fec_in
      fec_read t i h l = fec_back F (super_in W) t i l (λ k m. super_read (t / fec_blocks) k (omega arith) m)
