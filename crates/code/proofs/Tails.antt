-- The bytes of the element that holds a block's CRC and MBAS. Assumes nothing.
use Prim.Native.Nat.{ℕ, ◌+◌, ◌-◌, ◌*◌, ◌/◌, ◌%◌, ◌^◌, ◌≤◌, ◌<◌}
use mathlib.Core.Path.{◌≡◌, sym, ap, ◌∙◌}
use mathlib.Core.List.{List}
use native.Mathlib.Nat.{zero-add}
use native.Mathlib.Omega.{arith}
use borrow.Author.Tests.{lt-ltb, le-ltb}
use lib.Dec.{ltb}
use Rattle.prelude.specs.Lists.{from_index}
use Rattle.bits.specs.Bits.{num, digit, bit_at, Bits}
use Rattle.bits.proofs.Numbers.{num_ext, num_split, num_front, num_is, num_part, digit_lt}
use Rattle.prelude.proofs.Common.{cond_bit}
use Rattle.sizes.specs.Sizes.{crc_bits, mbas_bits}
use Rattle.code.specs.Steps.{guard_bits, tail_bit}

module _ (crc mbas : ℕ) (p : ℕ → ℕ) where
  pub tail_low : (i : ℕ) → i < crc_bits → tail_bit crc mbas p i ≡ digit crc_bits crc i
  unfolding tail_bit
  tail_low i h = rw (lt-ltb i crc_bits h)

  pub tail_mid : (j : ℕ) → j < mbas_bits → tail_bit crc mbas p (crc_bits + j) ≡ digit mbas_bits mbas j
  unfolding tail_bit
  tail_mid j h =
      let e : crc_bits + j - crc_bits ≡ j = omega arith in
      rw (le-ltb (crc_bits + j) crc_bits (omega arith), lt-ltb (crc_bits + j) guard_bits (omega arith), e)

  pub tail_high : (j : ℕ) → tail_bit crc mbas p (guard_bits + j) ≡ p j
  unfolding tail_bit
  tail_high j =
      let e : guard_bits + j - guard_bits ≡ j = omega arith in
      rw (le-ltb (guard_bits + j) crc_bits (omega arith), le-ltb (guard_bits + j) guard_bits (omega arith), e)

  pub tail_bits_law : Bits p → Bits (tail_bit crc mbas p)
  unfolding tail_bit
  tail_bits_law b i =
      cond_bit (ltb i crc_bits) _ _ (digit_lt crc_bits crc i)
      (cond_bit (ltb i guard_bits) _ _ (digit_lt mbas_bits mbas (i - crc_bits)) (b (i - guard_bits)))

  -- the first four bytes
  pub byte_crc : (k : ℕ) → k < 4 → crc < 2 ^ crc_bits → crc / 2 ^ (24 - 8 * k) % 256 ≡ num 8 (tail_bit crc mbas p) (8 * k)
  byte_crc k h l =
      let e : crc_bits - (8 * k + 8) ≡ 24 - 8 * k = omega arith in
      sym (num_ext 8 (tail_bit crc mbas p) (digit crc_bits crc) (8 * k) (8 * k) (λ j m. tail_low (8 * k + j) (omega arith))
      ∙ num_part crc_bits 8 (8 * k) crc l (omega arith) ∙ ap (λ (x : ℕ). crc / 2 ^ x % 256) e)

  -- the byte that MBAS and parity share
  pub byte_mid : (q : ℕ) → mbas < 64 → Bits p → q ≡ num 8 p 0 → mbas * 4 + q / 64 ≡ num 8 (tail_bit crc mbas p) crc_bits
  byte_mid q h b e =
      let six : num mbas_bits (tail_bit crc mbas p) crc_bits ≡ mbas = num_is mbas_bits (tail_bit crc mbas p) crc_bits mbas h tail_mid in
      let two : num 2 (tail_bit crc mbas p) guard_bits ≡ q / 64 =
      num_ext 2 (tail_bit crc mbas p) p guard_bits 0 (λ j l. tail_high j ∙ ap p (sym (zero-add j)))
      ∙ sym (num_front 2 mbas_bits p 0 b) ∙ ap (λ (x : ℕ). x / 64) (sym e) in
      sym (num_split mbas_bits 2 (tail_bit crc mbas p) crc_bits ∙ rw (six, two))

-- the others
pub byte_high : (crc mbas : ℕ) (s : List ℕ) (at k : ℕ) → 5 ≤ k
    → num 8 (bit_at s) (at + (8 * k - guard_bits)) ≡ num 8 (tail_bit crc mbas (from_index (bit_at s) at)) (8 * k)
byte_high crc mbas s at k h =
    num_ext 8 (bit_at s) (tail_bit crc mbas (from_index (bit_at s) at)) (at + (8 * k - guard_bits)) (8 * k)
    (λ j l. let e : 8 * k + j ≡ guard_bits + (8 * k + j - guard_bits) = omega arith in
    let d : at + (8 * k - guard_bits) + j ≡ at + (8 * k + j - guard_bits) = omega arith in
    ap (bit_at s) d ∙ sym (tail_high crc mbas (from_index (bit_at s) at) (8 * k + j - guard_bits)) ∙ ap (tail_bit crc mbas (from_index (bit_at s) at)) (sym e))

-- the eight bits from bit `at` on, as a byte and as the start of what follows it
pub byte_start : (s : List ℕ) (at : ℕ) → num 8 (bit_at s) at ≡ num 8 (from_index (bit_at s) at) 0
byte_start s at = num_ext 8 (bit_at s) (from_index (bit_at s) at) at 0 (λ j l. ap (λ (x : ℕ). bit_at s (at + x)) (sym (zero-add j)))
