-- The checks by bytes: the sums over a word's bytes, an entry of a table, and the two bytes that hold the check bits. Assumes nothing.
use Prim.Native.Nat.{ℕ, ◌+◌, ◌*◌, ◌/◌, ◌%◌, ◌<◌}
use mathlib.Core.Path.{◌≡◌, sym, ap, ap₂, ◌∙◌}
use mathlib.Core.List.{List}
use native.Mathlib.Decide.{ℕ_discrete}
use native.Mathlib.Omega.{arith}
use lib.Bits.{xor_zero_r}
use lib.ListN.{length, length-set, get_or, set}
use lib.Seq.{get_or-set_same, get_or-set_other}
use Rattle.prelude.specs.Lists.{tabulate}
use Rattle.bits.specs.Bits.{num, digit, bit_at, Bits, Bytes}
use Rattle.prelude.proofs.Lists.{is_table, get_d_tabulate}
use Rattle.bits.proofs.Numbers.{num_ext, num_front, num_back, num-digit, num_more, digit_lt}
use Rattle.bits.proofs.Packing.{bit_of_lt, bit_of_at, num-bit_of}
use Rattle.sizes.specs.Sizes.{check_bits, word_bytes, check_values}
use Rattle.hamming_matrix.specs.Columns.{columns, column_of}
use Rattle.hamming_matrix.specs.Sums.{sum_to, column_taken, tail_sum, tail_of}
use Rattle.hamming.specs.Code.{checks_of, element_sum, joined, joined_word, coded}
use Rattle.hamming_matrix.proofs.Sums.{sum_same, sum_blocks, taken_same}
use Rattle.hamming.specs.Steps.{byte_sum}
use Rattle.hamming.proofs.Words.{checks_joined, joined_low, joined_high}

-- what the bytes of a word add
unfoldable pub byte_of_sum : List ℕ → ℕ → ℕ
byte_of_sum w k = byte_sum k (get_or w k 0)

pub checks_bytes : (w : List ℕ) → sum_to (byte_of_sum w) word_bytes ≡ checks_of w
unfolding checks_of byte_of_sum byte_sum
checks_bytes w =
    sym (sum_blocks (column_taken 0 (bit_at w)) 8 word_bytes
    ∙ sum_same (λ k. sum_to (λ j. column_taken 0 (bit_at w) (8 * k + j)) 8) (byte_of_sum w) word_bytes
    (λ k h. sum_same (λ j. column_taken 0 (bit_at w) (8 * k + j)) (column_taken (8 * k) (digit 8 (get_or w k 0))) 8
    (λ j l. taken_same 0 (8 * k) (bit_at w) (digit 8 (get_or w k 0)) (8 * k + j) j (bit_of_at 8 w k j l) (omega arith))))

-- an entry of a table, by equations
pub entry_is : (f : ℕ → ℕ) (n : ℕ) (t : List ℕ) (i c : ℕ) → t ≡ tabulate n f → i ≡ c → c < n → get_or t i 0 ≡ f c
entry_is f n t i c e p h = ap₂ (λ (l : List ℕ) (k : ℕ). get_or l k 0) e p ∙ get_d_tabulate 0 n f c h

-- the 119 bits alone, with nine zeros
pub checks_alone : (f : ℕ → ℕ) → Bits f → checks_of (joined_word f 0) ≡ element_sum f
unfolding tail_sum sum_to column_taken digit column_of columns
checks_alone f b = checks_joined f 0 b ∙ xor_zero_r (element_sum f)

-- so the code word is closed by what these add
pub word_closed : (f : ℕ → ℕ) → Bits f → joined_word f (tail_of (checks_of (joined_word f 0))) ≡ coded f
unfolding coded
word_closed f b = ap (λ (c : ℕ). joined_word f (tail_of c)) (checks_alone f b)

-- ---- the two bytes that hold the check bits

module _ (e : List ℕ) (p : ℕ) (long : length e ≡ word_bytes) (bytes : Bytes e) (small : p < check_values) where
  front_byte : (k : ℕ) → k < 14 → get_or e k 0 ≡ num 8 (joined (bit_at e) p) (8 * k)
  front_byte k h =
      sym (num-bit_of 8 e k (bytes k))
      ∙ num_ext 8 (bit_at e) (joined (bit_at e) p) (8 * k) (8 * k) (λ j l. sym (joined_low (bit_at e) p (8 * k + j) (omega arith)))

  shared_byte : get_or e 14 0 / 2 * 2 + p / 256 ≡ num 8 (joined (bit_at e) p) 112
  unfolding digit
  shared_byte =
      let f = joined (bit_at e) p in
      let seven : num 7 (bit_at e) 112 ≡ num 7 f 112 = num_ext 7 (bit_at e) f 112 112 (λ j l. sym (joined_low (bit_at e) p (112 + j) (omega arith))) in
      let half : num 8 (bit_at e) 112 / 2 ≡ num 7 (bit_at e) 112 = num_front 7 1 (bit_at e) 112 (bit_of_lt 8 e) in
      let top : get_or e 14 0 / 2 ≡ num 7 f 112 = ap (λ (x : ℕ). x / 2) (sym (num-bit_of 8 e 14 (bytes 14))) ∙ half ∙ seven in
      let one : p / 256 ≡ p / 256 % 2 = omega arith in
      ap₂ (λ (x y : ℕ). x * 2 + y) top (one ∙ sym (joined_high (bit_at e) p 0)) ∙ sym (num_more 7 f 112)

  last_byte : p % 256 ≡ num 8 (joined (bit_at e) p) 120
  last_byte =
      ap (λ (x : ℕ). x % 256) (sym (num-digit check_bits p small)) ∙ num_back 1 8 (digit check_bits p) 0 (digit_lt check_bits p)
      ∙ num_ext 8 (digit check_bits p) (joined (bit_at e) p) 1 120 (λ j l. sym (joined_high (bit_at e) p (1 + j)) ∙ ap (joined (bit_at e) p) (omega arith))

  byte_is : (k : ℕ) → k < word_bytes → Dec (k ≡ 15) → Dec (k ≡ 14)
      → get_or (set (set e 14 (get_or e 14 0 / 2 * 2 + p / 256)) 15 (p % 256)) k 0 ≡ num 8 (joined (bit_at e) p) (8 * k)
  byte_is k h (yes a) d = rw a (get_or-set_same (set e 14 (get_or e 14 0 / 2 * 2 + p / 256)) 15 (p % 256) 0 (simp length-set (omega arith)) ∙ last_byte)
  byte_is k h (no a) (yes b) =
      get_or-set_other (set e 14 (get_or e 14 0 / 2 * 2 + p / 256)) 15 k (p % 256) 0 a
      ∙ rw b (get_or-set_same e 14 (get_or e 14 0 / 2 * 2 + p / 256) 0 (omega arith) ∙ shared_byte)
  byte_is k h (no a) (no b) =
      get_or-set_other (set e 14 (get_or e 14 0 / 2 * 2 + p / 256)) 15 k (p % 256) 0 a
      ∙ get_or-set_other e 14 k (get_or e 14 0 / 2 * 2 + p / 256) 0 b
      ∙ front_byte k (omega arith)

  -- so setting them joins the nine bits to the 119
  pub join_set : set (set e 14 (get_or e 14 0 / 2 * 2 + p / 256)) 15 (p % 256) ≡ joined_word (bit_at e) p
  join_set =
      is_table 0 word_bytes (λ k. num 8 (joined (bit_at e) p) (8 * k)) (set (set e 14 (get_or e 14 0 / 2 * 2 + p / 256)) 15 (p % 256)) (simp length-set long)
      (λ k h. byte_is k h (ℕ_discrete k 15) (ℕ_discrete k 14))
