-- With the right table, a byte at a time is the remainder, and the CRC, bit by bit. One law does it, `fold_in`: up to w bits may be added
-- to what stands in the register instead of being taken in one by one. Assumes nothing.
use Prim.Native.Nat.{ℕ, zero, suc, ◌+◌, ◌-◌, ◌*◌, ◌/◌, ◌%◌, ◌^◌, ◌≤◌, ◌<◌}
use mathlib.Core.List.{List}
use mathlib.Core.Path.{◌≡◌, refl, sym, ap, ap₂, ◌∙◌}
use native.Mathlib.Nat.{mod-eq_of_lt, mod-mod, add-mod, mul-one, one-mul, mul_assoc, pow-suc, lt_of_le_of_lt}
use native.Mathlib.Omega.{arith}
use borrow.Author.Tests.{lt-ltb, le-ltb}
use lib.Bits.{bit_xor, xor_zero_r, xor_lt, xor_comm}
use lib.Dec.{eqb, eqb→eq}
use lib.ListN.{get_or, length}
use lib.Pow.{pow_pos, pow_mono, shr_lt, shr-shr, shl-shr, field}
use Rattle.prelude.specs.Lists.{tabulate}
use Rattle.bits.specs.Bits.{digit, bit_at, added, Bits, Bytes}
use Rattle.prelude.specs.Loops.{upto}
use Rattle.prelude.proofs.Common.{by_bound, agree}
use Rattle.prelude.proofs.Lists.{get_d_tabulate}
use Rattle.bits.proofs.Numbers.{digit_lt}
use Rattle.bits.proofs.Packing.{bit_of_at, bit_of_lt}
use Rattle.prelude.proofs.Tables.{below_all, each}
use Rattle.bits.proofs.Xor.{xor_assoc, digit_xor}
use Rattle.crc.specs.Remainder.{shift, step, rem_from, rem_of, shift_n}
use Rattle.crc.specs.Crc.{width, poly, opened, ones, crc_of}
use Rattle.crc.specs.Steps.{entry_of, entries, byte_step, rem_by, opening, crc_by}
use Rattle.crc.proofs.Linear.{rem_from_lt, rem_ext, rem_add, rem_from_law, shift_xor, linear}
use Rattle.crc.proofs.Changes.{poly_lt}

-- ---- digits of a register

-- the register shifted by n: its top digit was digit n
digit_shifted : (w r n : ℕ) → n < w → digit w (r * 2 ^ n % 2 ^ w) 0 ≡ digit w r n
unfolding digit
digit_shifted w r n h =
    let k = w - 1 - n in
    let t = w - 1 - 0 in
    let e : w ≡ 1 + t = omega arith in
    let q : t ≡ n + k = omega arith in
    let top : r * 2 ^ n / 2 ^ t ≡ r / 2 ^ k =
    ap (λ (x : ℕ). r * 2 ^ n / 2 ^ x) q ∙ sym (shr-shr (r * 2 ^ n) n k) ∙ ap (λ (x : ℕ). x / 2 ^ k) (shl-shr r n) in
    ap (λ (x : ℕ). r * 2 ^ n % 2 ^ x / 2 ^ t % 2) e
    ∙ ap (λ (x : ℕ). x % 2) (field (r * 2 ^ n) 1 t ∙ ap (λ (x : ℕ). x % 2) top) ∙ mod-mod (r / 2 ^ k) 2

-- the first v of w digits are those of the number without the others
digit_front : (w v x j : ℕ) → j < v → v ≤ w → digit v (x / 2 ^ (w - v)) j ≡ digit w x j
unfolding digit
digit_front w v x j l h =
    let e : w - v + (v - 1 - j) ≡ w - 1 - j = omega arith in
    ap (λ (y : ℕ). y % 2) (shr-shr x (w - v) (v - 1 - j) ∙ ap (λ (y : ℕ). x / 2 ^ y) e)

-- twice a number that was cut to m
cut_double : (x m : ℕ) → x % m * 2 % m ≡ x * 2 % m
cut_double x m =
    let a : x % m * 2 ≡ x % m + x % m = omega arith in
    let b : x * 2 ≡ x + x = omega arith in
    rw (a, b) (sym (add-mod x x m))

-- the place in the table
pub bit_place_lt : (w r b : ℕ) → 8 ≤ w → r < 2 ^ w → b < 256 → bit_xor (r / 2 ^ (w - 8)) b < 256
bit_place_lt w r b l h k =
    let e : w ≡ 8 + (w - 8) = omega arith in
    xor_lt 8 (r / 2 ^ (w - 8)) b (shr_lt 8 (w - 8) (rw e at h)) k

module _ (w p : ℕ) where
  -- ---- bits added to what stands in the register

  -- one step of a register that was shifted by n
  shift_on : (r n : ℕ) → n < w → shift w p (r * 2 ^ n % 2 ^ w) ≡ bit_xor (r * 2 ^ suc n % 2 ^ w) (digit w r n * p)
  unfolding shift
  shift_on r n h =
      let e : r * 2 ^ n * 2 ≡ r * 2 ^ suc n = mul_assoc r (2 ^ n) 2 ∙ ap (λ (x : ℕ). r * x) (sym (pow-suc 2 n)) in
      ap₂ (λ (x y : ℕ). bit_xor x (y * p)) (cut_double (r * 2 ^ n) (2 ^ w) ∙ ap (λ (x : ℕ). x % 2 ^ w) e) (digit_shifted w r n h)

  -- r·x^n, n at most w: its first n digits leave on top, and the others move up
  shifts_out : (r n : ℕ) → r < 2 ^ w → n ≤ w → shift_n w p n r ≡ bit_xor (r * 2 ^ n % 2 ^ w) (rem_of w p (digit w r) n)
  unfolding shift_n rem_from step
  shifts_out r zero h l = sym (xor_zero_r (r * 2 ^ 0 % 2 ^ w) ∙ ap (λ (x : ℕ). x % 2 ^ w) (mul-one r) ∙ mod-eq_of_lt h)
  shifts_out r (suc n) h l =
      let a = r * 2 ^ suc n % 2 ^ w in
      let o = rem_of w p (digit w r) n in
      let t = digit w r n * p in
      rw (shifts_out r n h (omega arith), shift_xor w p, shift_on r n (omega arith))
      (xor_assoc a t (shift w p o) ∙ ap (bit_xor a) (xor_comm t (shift w p o)))

  -- FOLD IN: n bits, at most w, taken in by the register r: they meet its first n digits, and the others move up
  pub fold_in : (r : ℕ) (f : ℕ → ℕ) (n : ℕ) → r < 2 ^ w → n ≤ w → Bits f
      → rem_from w p r f n ≡ bit_xor (r * 2 ^ n % 2 ^ w) (rem_of w p (added (digit w r) f) n)
  fold_in r f n h l b =
      let a = r * 2 ^ n % 2 ^ w in
      rem_from_law w p r f n ∙ ap (λ (x : ℕ). bit_xor x (rem_of w p f n)) (shifts_out r n h l)
      ∙ xor_assoc a (rem_of w p (digit w r) n) (rem_of w p f n) ∙ ap (bit_xor a) (sym (linear w p (digit w r) f n (digit_lt w r) b))

  -- ---- a byte at a time

  -- a byte by the table is its eight bits
  byte_step_law : (s : List ℕ) (k r : ℕ) → 8 ≤ w → Bytes s → r < 2 ^ w
      → byte_step w (tabulate 256 (entry_of w p)) s k r ≡ rem_from w p r (digit 8 (get_or s k 0)) 8
  unfolding byte_step
  byte_step_law s k r l hs h =
      let b = get_or s k 0 in
      let i = bit_xor (r / 2 ^ (w - 8)) b in
      ap (bit_xor (r * 2 ^ 8 % 2 ^ w))
      (get_d_tabulate 0 256 (entry_of w p) i (bit_place_lt w r b l h (hs k))
      ∙ rem_ext w p 0 (digit 8 i) (added (digit w r) (digit 8 b)) 8
      (λ j m. digit_xor 8 (r / 2 ^ (w - 8)) b j ∙ ap (λ (x : ℕ). (x + digit 8 b j) % 2) (digit_front w 8 r j m l)))
      ∙ sym (fold_in r (digit 8 b) 8 h l (digit_lt 8 b))

  -- BYTES: with the right table, what the bits of the bytes leave
  pub bytes_upto : (s : List ℕ) (r k : ℕ) → 8 ≤ w → p < 2 ^ w → Bytes s → r < 2 ^ w
      → upto (byte_step w (tabulate 256 (entry_of w p)) s) r k ≡ rem_from w p r (bit_at s) (8 * k)
  unfolding upto rem_from
  bytes_upto s r zero l small hs h = refl
  bytes_upto s r (suc k) l small hs h =
      let x = rem_from w p r (bit_at s) (8 * k) in
      let e : 8 * suc k ≡ 8 * k + 8 = omega arith in
      ap (byte_step w (tabulate 256 (entry_of w p)) s k) (bytes_upto s r k l small hs h)
      ∙ byte_step_law s k x l hs (rem_from_lt w p small r (bit_at s) (8 * k) h (bit_of_lt 8 s))
      ∙ rem_ext w p x (digit 8 (get_or s k 0)) (λ i. bit_at s (8 * k + i)) 8 (λ i m. sym (bit_of_at 8 s k i m))
      ∙ sym (ap (rem_from w p r (bit_at s)) e ∙ rem_add w p r (bit_at s) (8 * k) 8)

-- the same of the CRC's table
pub bytes_rem : (t s : List ℕ) (r : ℕ) → t ≡ entries → Bytes s → r < 2 ^ width → rem_by t r s ≡ rem_from width poly r (bit_at s) (8 * length s)
bytes_rem t s r e hs h = ap (λ (x : List ℕ). rem_by x r s) e ∙ bytes_upto width poly s r (length s) (omega arith) poly_lt hs h

-- ---- the first 32 bits complemented

pub opening_lt : (n : ℕ) → opening n < 2 ^ width
unfolding opening
opening_lt n = omega (arith, pow_pos (32 - n))

pub opening_many : (n : ℕ) → 32 ≤ n → opening n ≡ opening 32
unfolding opening
opening_many n h = let e : 32 - n ≡ 0 = omega arith in ap (λ (x : ℕ). 2 ^ 32 - 2 ^ x) e

-- ones in the first n digits, by one test of all n
opening_digit : (n i : ℕ) → n ≤ 32 → i < n → digit 32 (opening n) i ≡ 1
unfolding digit opening
opening_digit n i h l =
    eqb→eq (digit 32 (opening n) i) 1
    (each (λ i. eqb (digit 32 (opening n) i) 1) n (each (λ n. below_all (λ i. eqb (digit 32 (opening n) i) 1) n) 33 tt n (omega arith)) i l)

-- and nothing behind them
opening_away : (n : ℕ) → n ≤ 32 → opening n * 2 ^ n % 2 ^ 32 ≡ 0
unfolding opening
opening_away n h = agree (λ n. opening n * 2 ^ n % 2 ^ 32) (λ n. 0) 33 tt n (omega arith)

-- where there are at most 32 bits, all are complemented
opens_few : (f : ℕ → ℕ) (n : ℕ) → Bits f → n ≤ 32 → rem_from width poly (opening n) f n ≡ rem_of width poly (opened f) n
unfolding opened
opens_few f n b h =
    fold_in width poly (opening n) f n (opening_lt n) h b
    ∙ ap₂ bit_xor (opening_away n h)
    (rem_ext width poly 0 (added (digit 32 (opening n)) f) (opened f) n
    (λ i l. rw (opening_digit n i h l, lt-ltb i 32 (omega arith)) (omega (arith, b i))))

-- past them, the register goes on
opens_more : (f : ℕ → ℕ) (m : ℕ) → Bits f → rem_from width poly (opening 32) f (32 + m) ≡ rem_of width poly (opened f) (32 + m)
unfolding opened
opens_more f m b =
    rem_add width poly (opening 32) f 32 m
    ∙ ap (λ (x : ℕ). rem_from width poly x (λ i. f (32 + i)) m) (opens_few f 32 b (omega arith))
    ∙ rem_ext width poly (rem_of width poly (opened f) 32) (λ i. f (32 + i)) (λ i. opened f (32 + i)) m
    (λ i l. rw (le-ltb (32 + i) 32 (omega arith)))
    ∙ sym (rem_add width poly 0 (opened f) 32 m)

-- OPENING: to start from ones is to complement the first 32 bits
pub opens : (f : ℕ → ℕ) (n : ℕ) → Bits f → rem_from width poly (opening n) f n ≡ rem_of width poly (opened f) n
opens f n b = by_bound 32 n (λ l. opens_few f n b (omega arith)) more
  where
    more : 32 ≤ n → rem_from width poly (opening n) f n ≡ rem_of width poly (opened f) n
    more h =
        let e : n ≡ 32 + (n - 32) = omega arith in
        ap (λ (x : ℕ). rem_from width poly x f n) (opening_many n h)
        ∙ ap (rem_from width poly (opening 32) f) e ∙ opens_more f (n - 32) b ∙ ap (rem_of width poly (opened f)) (sym e)

-- CRC: with the right table, the CRC of the bits of the bytes, however many they are
pub bytes_crc : (t s : List ℕ) → t ≡ entries → Bytes s → crc_by t s ≡ crc_of (8 * length s) (bit_at s)
unfolding crc_of
bytes_crc t s e hs =
    let n = 8 * length s in
    ap (bit_xor ones) (bytes_rem t s (opening n) e hs (opening_lt n) ∙ opens (bit_at s) n (bit_of_lt 8 s))

-- a power that a u64 holds
pub power : (k : ℕ) → k ≤ 32 → 1 * 2 ^ k % 2 ^ 64 ≡ 2 ^ k
power k h = ap (λ (x : ℕ). x % 2 ^ 64) (one-mul (2 ^ k)) ∙ mod-eq_of_lt (lt_of_le_of_lt (pow_mono h) (omega arith))
