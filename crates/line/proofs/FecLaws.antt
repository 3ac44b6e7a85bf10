-- The laws of an FEC block: its four fields by their places, and the information and parity that come back from its bits. Assumes nothing.
use Prim.Native.Nat.{ℕ, ◌+◌, ◌-◌, ◌*◌, ◌/◌, ◌%◌, ◌^◌, ◌≤◌, ◌<◌}
use mathlib.Core.Bool.{Bool, true, false}
use mathlib.Core.Path.{◌≡◌, refl, sym, ap, ◌∙◌, subst}
use mathlib.Core.List.{List}
use native.Mathlib.Omega.{arith}
use borrow.Author.Tests.{ltb-true, ltb-false, lt-ltb, le-ltb}
use lib.Dec.{ltb}
use lib.ListN.{length}
use Rattle.bits.specs.Bits.{num, digit, bit_at, pack, Bits, Bytes}
use Rattle.bits.proofs.Numbers.{digit_lt, num_part}
use Rattle.bits.proofs.Packing.{bit_of_lt, packs_ext, packs-bit_of}
use Rattle.prelude.proofs.Common.{cond_bit}
use Rattle.sizes.specs.Sizes.{info_bits, crc_bits, mbas_bits, parity_bits, mbas_from, parity_from, fec_bits, info_length, parity_length}
use Rattle.line.specs.Fec.{block_numbers, mbas_allowed, block_number, mbas_of, fields, info_bit, parity_bit, block_crc, fec_bit}
use Rattle.line.specs.Frames.{info_of, parity_of}

-- ---- the four fields

module _ (a b c d : ℕ → ℕ) where
  pub fields_info : (i : ℕ) → i < info_bits → fields a b c d i ≡ a i
  unfolding fields
  fields_info i h = rw (lt-ltb i info_bits h)

  pub fields_crc : (j : ℕ) → j < crc_bits → fields a b c d (info_bits + j) ≡ b j
  unfolding fields
  fields_crc j h =
      let e : info_bits + j - info_bits ≡ j = omega arith in
      rw (le-ltb (info_bits + j) info_bits (omega arith), lt-ltb (info_bits + j) mbas_from (omega arith), e)

  pub fields_mbas : (j : ℕ) → j < mbas_bits → fields a b c d (mbas_from + j) ≡ c j
  unfolding fields
  fields_mbas j h =
      let e : mbas_from + j - mbas_from ≡ j = omega arith in
      rw (le-ltb (mbas_from + j) info_bits (omega arith), le-ltb (mbas_from + j) mbas_from (omega arith), lt-ltb (mbas_from + j) parity_from (omega arith), e)

  pub fields_parity : (j : ℕ) → fields a b c d (parity_from + j) ≡ d j
  unfolding fields
  fields_parity j =
      let e : parity_from + j - parity_from ≡ j = omega arith in
      rw (le-ltb (parity_from + j) info_bits (omega arith), le-ltb (parity_from + j) mbas_from (omega arith), le-ltb (parity_from + j) parity_from (omega arith), e)

  pub fields_bits : Bits a → Bits b → Bits c → Bits d → Bits (fields a b c d)
  unfolding fields
  fields_bits ha hb hc hd i =
      cond_bit (ltb i info_bits) (a i) _ (ha i)
      (cond_bit (ltb i mbas_from) (b (i - info_bits)) _ (hb (i - info_bits))
      (cond_bit (ltb i parity_from) (c (i - mbas_from)) _ (hc (i - mbas_from)) (hd (i - parity_from))))

past_fields : (i a : ℕ) → a ≤ i → a + (i - a) ≡ i
past_fields i a h = omega arith

-- what holds in each field holds in the whole block
module _ (P : ℕ → Type 0) (in_info : (i : ℕ) → i < info_bits → P i) (in_crc : (j : ℕ) → j < crc_bits → P (info_bits + j))
    (in_mbas : (j : ℕ) → j < mbas_bits → P (mbas_from + j)) (in_parity : (j : ℕ) → j < parity_bits → P (parity_from + j)) where
  by_place : (x y z : Bool) (i : ℕ) → ltb i info_bits ≡ x → ltb i mbas_from ≡ y → ltb i parity_from ≡ z → i < fec_bits → P i
  by_place true y z i p q r h = in_info i (ltb-true i info_bits p)
  by_place false true z i p q r h =
      subst P (past_fields i info_bits (ltb-false i info_bits p)) (in_crc (i - info_bits) (omega (arith, ltb-true i mbas_from q, ltb-false i info_bits p)))
  by_place false false true i p q r h =
      subst P (past_fields i mbas_from (ltb-false i mbas_from q)) (in_mbas (i - mbas_from) (omega (arith, ltb-true i parity_from r, ltb-false i mbas_from q)))
  by_place false false false i p q r h =
      subst P (past_fields i parity_from (ltb-false i parity_from r)) (in_parity (i - parity_from) (omega (arith, ltb-false i parity_from r)))

  pub fields_all : (i : ℕ) → i < fec_bits → P i
  fields_all i h = by_place (ltb i info_bits) (ltb i mbas_from) (ltb i parity_from) i refl refl refl h

-- ---- the fields of FEC block t

-- an MBAS has six bits
pub mbas_lt : (m0 t : ℕ) → mbas_of m0 t < 2 ^ mbas_bits
unfolding mbas_of block_number
mbas_lt m0 t = omega arith

-- they are the upper six of the block's seven-bit number
pub mbas_upper : (m0 t : ℕ) → mbas_of m0 t ≡ num mbas_bits (digit 7 (block_number m0 t)) 0
unfolding mbas_of block_number
mbas_upper m0 t = omega (arith, num_part 7 mbas_bits 0 ((m0 + t) % block_numbers) (omega arith) (omega arith))

-- it rises every second FEC block
pub mbas_rises : (m0 t : ℕ) → mbas_of m0 (2 + t) ≡ (1 + mbas_of m0 t) % 2 ^ mbas_bits
unfolding mbas_of block_number
mbas_rises m0 t = omega arith

-- half of a rest is the rest of the half
half_rest : (x : ℕ) → x % block_numbers / 2 ≡ x / 2 % 2 ^ mbas_bits
half_rest x = omega arith

-- the next number's half: one more where the number is odd
next_half : (m : ℕ) → (m + 1) % block_numbers / 2 ≡ (m / 2 + m % 2) % 2 ^ mbas_bits
next_half m =
    let e : (m + 1) / 2 ≡ m / 2 + m % 2 = omega arith in
    half_rest (m + 1) ∙ rw e

-- where two numbers have one half, and the next ones too, they are the same
half_tells : (a b : ℕ) → a / 2 ≡ b / 2 → (a / 2 + a % 2) % 2 ^ mbas_bits ≡ (b / 2 + b % 2) % 2 ^ mbas_bits → a ≡ b
half_tells a b e f = omega arith

-- two allowed first numbers that give FEC blocks 0 and 1 the same MBAS are the same
pub mbas_tells : (m0 m1 : ℕ) → mbas_allowed m0 ≡ true → mbas_allowed m1 ≡ true → mbas_of m0 0 ≡ mbas_of m1 0 → mbas_of m0 1 ≡ mbas_of m1 1 → m0 ≡ m1
unfolding mbas_allowed mbas_of block_number
mbas_tells m0 m1 h k e f =
    half_tells m0 m1 (omega (arith, ltb-true m0 block_numbers h, ltb-true m1 block_numbers k)) (sym (next_half m0) ∙ f ∙ next_half m1)

pub info_bits_law : (info : List ℕ) (t : ℕ) → Bits (info_bit info t)
unfolding info_bit
info_bits_law info t i = bit_of_lt 8 info (info_bits * t + i)

pub fec_parity_bits : (par : List ℕ) (t : ℕ) → Bits (parity_bit par t)
unfolding parity_bit
fec_parity_bits par t i = bit_of_lt 8 par (parity_bits * t + i)

module _ (m0 : ℕ) (info par : List ℕ) (t : ℕ) where
  abbrev crc_digit : ℕ → ℕ
  crc_digit = digit crc_bits (block_crc info t)

  abbrev mbas_digit : ℕ → ℕ
  mbas_digit = digit mbas_bits (mbas_of m0 t)

  pub fec_info : (i : ℕ) → i < info_bits → fec_bit m0 info par t i ≡ info_bit info t i
  unfolding fec_bit
  fec_info = fields_info (info_bit info t) crc_digit mbas_digit (parity_bit par t)

  pub fec_crc : (j : ℕ) → j < crc_bits → fec_bit m0 info par t (info_bits + j) ≡ digit crc_bits (block_crc info t) j
  unfolding fec_bit
  fec_crc = fields_crc (info_bit info t) crc_digit mbas_digit (parity_bit par t)

  pub fec_mbas : (j : ℕ) → j < mbas_bits → fec_bit m0 info par t (mbas_from + j) ≡ digit mbas_bits (mbas_of m0 t) j
  unfolding fec_bit
  fec_mbas = fields_mbas (info_bit info t) crc_digit mbas_digit (parity_bit par t)

  pub fec_parity : (j : ℕ) → fec_bit m0 info par t (parity_from + j) ≡ parity_bit par t j
  unfolding fec_bit
  fec_parity = fields_parity (info_bit info t) crc_digit mbas_digit (parity_bit par t)

  pub fec_bits_law : Bits (fec_bit m0 info par t)
  unfolding fec_bit
  fec_bits_law =
      fields_bits (info_bit info t) crc_digit mbas_digit (parity_bit par t) (info_bits_law info t) (digit_lt crc_bits (block_crc info t))
      (digit_lt mbas_bits (mbas_of m0 t)) (fec_parity_bits par t)

-- ---- information and parity come back from bits that agree with the blocks'

module _ (N : ℕ) (F : ℕ → ℕ → ℕ) where
  pub info_back : (info : List ℕ) → length info ≡ info_length N → Bytes info → ((t i : ℕ) → t < 5 * N → i < info_bits → F t i ≡ info_bit info t i)
      → info_of N F ≡ info
  unfolding info_of info_bit
  info_back info len bytes h =
      packs_ext 8 (info_length N) (λ j. F (j / info_bits) (j % info_bits)) (bit_at info)
      (λ j l. let e : info_bits * (j / info_bits) + j % info_bits ≡ j = omega arith in h (j / info_bits) (j % info_bits) (omega arith) (omega arith)
      ∙ ap (bit_at info) e)
      ∙ ap (λ (n : ℕ). pack n (bit_at info)) (sym len)
      ∙ packs-bit_of 8 info bytes

  pub parity_back : (par : List ℕ) → length par ≡ parity_length N → Bytes par
      → ((t j : ℕ) → t < 5 * N → j < parity_bits → F t (parity_from + j) ≡ parity_bit par t j) → parity_of N F ≡ par
  unfolding parity_of parity_bit
  parity_back par len bytes h =
      packs_ext 8 (parity_length N) (λ j. F (j / parity_bits) (parity_from + j % parity_bits)) (bit_at par)
      (λ j l. let e : parity_bits * (j / parity_bits) + j % parity_bits ≡ j = omega arith in h (j / parity_bits) (j % parity_bits) (omega arith) (omega arith)
      ∙ ap (bit_at par) e)
      ∙ ap (λ (n : ℕ). pack n (bit_at par)) (sym len)
      ∙ packs-bit_of 8 par bytes
