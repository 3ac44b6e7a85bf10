-- A flipped bit: which bits a flip changes, and what it does to the checks. Assumes nothing.
use Prim.Native.Nat.{ℕ, ◌+◌, ◌*◌, ◌/◌, ◌%◌, ◌^◌, ◌<◌}
use mathlib.Core.Path.{◌≡◌, sym, ap, ◌∙◌}
use mathlib.Core.List.{List}
use native.Mathlib.Nat.{zero-add}
use native.Mathlib.Decide.{ℕ_discrete}
use native.Mathlib.Omega.{arith}
use lib.Bits.{bit_xor}
use lib.ListN.{length, length-set, get_or, set}
use lib.Seq.{get_or-set_same, get_or-set_other, set-set, set-get_or}
use Rattle.bits.specs.Bits.{digit, bit_of, bit_at}
use Rattle.prelude.proofs.Common.{agree}
use Rattle.bits.proofs.Packing.{bit_of_lt}
use Rattle.bits.proofs.Xor.{xor_cancel, digit_xor}
use Rattle.sizes.specs.Sizes.{word_bits, word_bytes}
use Rattle.hamming_matrix.specs.Columns.{column_of}
use Rattle.hamming.specs.Code.{checks_of, flip}
use Rattle.hamming_matrix.proofs.Sums.{unit, unit_same, unit_other, unit_lt, taken_xor, sum_unit}

-- the digits of the byte 128 / 2 ^ a: the only 1 stands at a. The test goes over the 64 pairs
pub mark_digit : (a b : ℕ) → a < 8 → b < 8 → digit 8 (128 / 2 ^ a) b ≡ unit a b
unfolding digit unit
mark_digit a b h k =
    let p : (8 * a + b) / 8 ≡ a = omega arith in
    let q : (8 * a + b) % 8 ≡ b = omega arith in
    rw (p, q) at (agree (λ i. digit 8 (128 / 2 ^ (i / 8)) (i % 8)) (λ i. unit (i / 8) (i % 8)) 64 tt (8 * a + b) (omega arith))

pub flip_long : (w : List ℕ) (i : ℕ) → length (flip w i) ≡ length w
unfolding flip
flip_long w i = length-set w (i / 8) (bit_xor (get_or w (i / 8) 0) (128 / 2 ^ (i % 8)))

module _ (w : List ℕ) (long : length w ≡ word_bytes) (i : ℕ) (h : i < word_bits) where
  -- the byte that holds bit i, and the others
  flip_here : get_or (flip w i) (i / 8) 0 ≡ bit_xor (get_or w (i / 8) 0) (128 / 2 ^ (i % 8))
  unfolding flip
  flip_here = get_or-set_same w (i / 8) (bit_xor (get_or w (i / 8) 0) (128 / 2 ^ (i % 8))) 0 (omega arith)

  flip_there : (k : ℕ) → (k ≡ i / 8 → ⊥) → get_or (flip w i) k 0 ≡ get_or w k 0
  unfolding flip
  flip_there k ne = get_or-set_other w (i / 8) k (bit_xor (get_or w (i / 8) 0) (128 / 2 ^ (i % 8))) 0 ne

  -- flipped twice, it is as it was
  pub flip-flip : flip (flip w i) i ≡ w
  unfolding flip
  flip-flip =
      let m = 128 / 2 ^ (i % 8) in
      let x = get_or w (i / 8) 0 in
      set-set w (i / 8) (bit_xor x m) (bit_xor (get_or (flip w i) (i / 8) 0) m)
      ∙ ap (set w (i / 8)) (ap (λ (y : ℕ). bit_xor y m) flip_here ∙ xor_cancel x m)
      ∙ set-get_or w (i / 8) 0

  -- bit i is flipped, and no other
  same_byte : (j : ℕ) → j / 8 ≡ i / 8 → Dec (i ≡ j) → unit (i % 8) (j % 8) ≡ unit i j
  same_byte j e (yes p) = unit_same (i % 8) (j % 8) (omega arith) ∙ sym (unit_same i j p)
  same_byte j e (no ne) = unit_other (i % 8) (j % 8) (λ q. ne (omega arith)) ∙ sym (unit_other i j ne)

  bit_at_law : (j : ℕ) → Dec (j / 8 ≡ i / 8) → bit_at (flip w i) j ≡ (bit_at w j + unit i j) % 2
  unfolding bit_of
  bit_at_law j (yes e) =
      rw (
        e,
        flip_here,
        digit_xor 8 (get_or w (i / 8) 0) (128 / 2 ^ (i % 8)) (j % 8),
        mark_digit (i % 8) (j % 8) (omega arith) (omega arith),
        same_byte j e (ℕ_discrete i j),
      )
  bit_at_law j (no ne) =
      rw (flip_there (j / 8) ne, unit_other i j (λ q. ne (ap (λ (x : ℕ). x / 8) (sym q)))) (omega (arith, bit_of_lt 8 w j))

  pub flip_bit : (j : ℕ) → bit_at (flip w i) j ≡ (bit_at w j + unit i j) % 2
  flip_bit j = bit_at_law j (ℕ_discrete (j / 8) (i / 8))

  -- the checks of a word with bit i flipped are its checks plus column i
  pub checks_flip : checks_of (flip w i) ≡ bit_xor (checks_of w) (column_of i)
  unfolding checks_of
  checks_flip =
      taken_xor 0 (bit_at w) (unit i) (bit_at (flip w i)) word_bits (bit_of_lt 8 w) (unit_lt i) (λ j l. flip_bit j)
      ∙ ap (bit_xor (checks_of w)) (sum_unit 0 i word_bits h ∙ ap column_of (zero-add i))
