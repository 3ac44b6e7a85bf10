-- The sequence out of one period, and added to a word. Assumes nothing.
use Prim.Native.Nat.{ℕ, ◌+◌, ◌*◌, ◌/◌, ◌%◌, ◌<◌}
use mathlib.Core.Path.{◌≡◌, ap, ap₂, ◌∙◌}
use mathlib.Core.List.{List, [], ◌∷◌}
use native.Mathlib.Omega.{arith}
use lib.Bits.{bit_xor}
use lib.ListN.{get_or}
use Rattle.prelude.specs.Lists.{tabulate, from_index}
use Rattle.prelude.proofs.Lists.{get_d_tabulate, tabulate_ext}
use Rattle.bits.specs.Bits.{num, bit_at, byte_of, pack, added, Bits}
use Rattle.bits.proofs.Numbers.{num_ext}
use Rattle.bits.proofs.Packing.{bit_of-packs, below_width, num_two_from}
use Rattle.bits.proofs.Xor.{num_xor}
use Rattle.scrambler.specs.Scrambler.{o}
use Rattle.scrambler.specs.Steps.{period}
use Rattle.scrambler.proofs.Rule.{o_lt}
use Rattle.scrambler.proofs.Period.{within_period}
use Rattle.sizes.specs.Sizes.{word_bytes, word_bits}
use Rattle.scrambling.specs.Steps.{added_byte, period_bytes, one_period, frame_place, period_place}

-- the sequence from bit k on, out of the one period that was made
pub sequence_from : (scr : List ℕ) (k i : ℕ) → scr ≡ one_period → i < word_bits → bit_at scr (k % period + i) ≡ o (k + i)
sequence_from scr k i e h =
    ap (λ (s : List ℕ). bit_at s (k % period + i)) e ∙ bit_of-packs 8 period_bytes o (k % period + i) o_lt (omega arith) ∙ within_period k i

-- byte k, not changed yet, with the eight bits of two bytes of the sequence
pub byte_summed : (out₀ out sequence : List ℕ) (at k a b x : ℕ) → get_or out k 0 ≡ get_or out₀ k 0 → a ≡ get_or sequence (at / 8 + k) 0 → b ≡ get_or sequence (at / 8 + k + 1) 0
    → x ≡ num 8 (bit_at (a ∷ b ∷ [])) (at % 8) → bit_xor (get_or out k 0) x ≡ added_byte out₀ (from_index (bit_at sequence) at) k
unfolding added_byte
byte_summed out₀ out sequence at k a b x e p q r = ap₂ bit_xor e (r ∙ num_two_from 8 sequence at k a b (omega arith) p q)

-- bytes made of bits, and bits added to them that are g's as far as the bytes go
pub packs_added : (n : ℕ) (f g h : ℕ → ℕ) (s : List ℕ) → Bits f → Bits g → s ≡ pack n f → ((i : ℕ) → i < 8 * n → h i ≡ g i)
    → tabulate n (added_byte s h) ≡ pack n (added f g)
unfolding added_byte
packs_added n f g h s hf hg p e =
    tabulate_ext n (added_byte s h) (byte_of (added f g))
    (λ k l. ap₂ bit_xor (ap (λ (t : List ℕ). get_or t k 0) p ∙ get_d_tabulate 0 n (byte_of f) k l)
    (num_ext 8 h g (8 * k) (8 * k) (λ j m. e (8 * k + j) (below_width 8 n k j l m)))
    ∙ num_xor 8 f g (8 * k) hf hg)

-- AN ELEMENT SCRAMBLED: to each of its bits the bit of the sequence is added that stands at its place in the super frame
pub scrambled_bit : (scr v r : List ℕ) (e i : ℕ) → scr ≡ one_period → r ≡ pack word_bytes (added (bit_at v) (from_index (bit_at scr) (period_place e)))
    → i < word_bits → bit_at r i ≡ (bit_at v i + o (frame_place e + i)) % 2
scrambled_bit scr v r e i p q h =
    ap (λ (s : List ℕ). bit_at s i) q
    ∙ bit_of-packs 8 word_bytes (added (bit_at v) (from_index (bit_at scr) (period_place e))) i (λ j. omega arith) h
    ∙ ap (λ (x : ℕ). (bit_at v i + x) % 2) (sequence_from scr (frame_place e) i p h)
