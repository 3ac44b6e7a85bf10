-- The remainder is linear, whatever the width w and what x^w leaves, p: what a sum of two stretches leaves is the sum of what they leave; a
-- stretch's remainder is made from those of its two parts; and a change of some bits changes the remainder by what the change leaves.
-- Assumes nothing.
use Prim.Native.Nat.{ℕ, zero, suc, ◌+◌, ◌-◌, ◌*◌, ◌/◌, ◌%◌, ◌^◌, ◌<◌}
use mathlib.Core.Path.{◌≡◌, refl, sym, ap, ap₂, ◌∙◌}
use native.Mathlib.Nat.{add-zero, add-suc, pow-suc, lt-suc_self, lt_trans, mod-lt, mod-eq_of_lt, mul-div-mul_right, div-lt_iff_lt-mul}
use native.Mathlib.Numerals.{add-one}
use native.Mathlib.Omega.{arith}
use lib.Bits.{bit_xor, xor_zero_r, xor_self, xor_lt}
use lib.Pow.{pow_pos}
use Rattle.bits.specs.Bits.{digit, added, Bits}
use Rattle.bits.proofs.Numbers.{digit_lt}
use Rattle.bits.proofs.Xor.{xor_assoc, xor_swap, digit_xor, times_xor, double_xor}
use Rattle.prelude.proofs.Common.{bit_times}
use Rattle.crc.specs.Remainder.{shift, step, rem_from, rem_of, shift_n}

-- ---- digits

-- the digit that leaves on top
pub top_digit : (w r : ℕ) → r < 2 ^ w → digit w r 0 ≡ r * 2 / 2 ^ w
unfolding digit
top_digit zero r h = let z : r ≡ 0 = omega arith in rw z
top_digit (suc v) r h =
    let e : suc v - 1 - 0 ≡ v = omega arith in
    rw (e, pow-suc, mul-div-mul_right {m = 2} r (2 ^ v) (omega arith)) (mod-eq_of_lt ((div-lt_iff_lt-mul (pow_pos v)).1 (omega arith)))

-- ---- a remainder has w digits

module _ (w p : ℕ) (small : p < 2 ^ w) where
  pub shift_lt : (r : ℕ) → shift w p r < 2 ^ w
  unfolding shift
  shift_lt r = search (xor_lt, mod-lt, pow_pos, bit_times, digit_lt)

  pub rem_from_lt : (r : ℕ) (f : ℕ → ℕ) (n : ℕ) → r < 2 ^ w → Bits f → rem_from w p r f n < 2 ^ w
  unfolding rem_from step
  rem_from_lt r f zero h b = h
  rem_from_lt r f (suc n) h b = search (xor_lt, shift_lt, bit_times, b)

  pub rem_lt : (f : ℕ → ℕ) (n : ℕ) → Bits f → rem_of w p f n < 2 ^ w
  rem_lt f n b = rem_from_lt 0 f n (pow_pos w) b

module _ (w p : ℕ) where
  -- ---- only the n bits count

  pub rem_ext : (r : ℕ) (f g : ℕ → ℕ) (n : ℕ) → ((i : ℕ) → i < n → f i ≡ g i) → rem_from w p r f n ≡ rem_from w p r g n
  unfolding rem_from
  rem_ext r f g zero h = refl
  rem_ext r f g (suc n) h = ap₂ (step w p) (rem_ext r f g n (λ i l. h i (lt_trans l (lt-suc_self n)))) (h n (lt-suc_self n))

  -- a loop that takes in one bit more
  pub rem_more : {r b x : ℕ} (s : ℕ) (f : ℕ → ℕ) (n : ℕ) → r ≡ rem_from w p s f n → b ≡ f n → x ≡ step w p r b → x ≡ rem_from w p s f (n + 1)
  unfolding rem_from
  rem_more s f n e q h = rw (h, e, q, add-one)

  -- ---- sums

  pub shift_xor : (r s : ℕ) → shift w p (bit_xor r s) ≡ bit_xor (shift w p r) (shift w p s)
  unfolding shift
  shift_xor r s = rw (double_xor, digit_xor, times_xor, digit_lt, xor_swap (r * 2 % 2 ^ w) (s * 2 % 2 ^ w))

  pub shift_zero : shift w p 0 ≡ 0
  shift_zero = shift_xor 0 0 ∙ xor_self (shift w p 0)

  step_xor : (r s a b : ℕ) → a < 2 → b < 2 → step w p (bit_xor r s) ((a + b) % 2) ≡ bit_xor (step w p r a) (step w p s b)
  unfolding step
  step_xor r s a b h k = ap₂ bit_xor (shift_xor r s) (times_xor a b p h k) ∙ xor_swap (shift w p r) (shift w p s) (a * p) (b * p)

  -- LINEARITY: what the sum of two stretches of n bits leaves
  pub linear : (f g : ℕ → ℕ) (n : ℕ) → Bits f → Bits g → rem_of w p (added f g) n ≡ bit_xor (rem_of w p f n) (rem_of w p g n)
  unfolding rem_from
  linear f g zero hf hg = refl
  linear f g (suc n) hf hg =
      ap (λ (x : ℕ). step w p x ((f n + g n) % 2)) (linear f g n hf hg) ∙ step_xor (rem_of w p f n) (rem_of w p g n) (f n) (g n) (hf n) (hg n)

  -- ---- parts

  -- a stretch goes on from where its first part ended
  pub rem_add : (r : ℕ) (f : ℕ → ℕ) (n m : ℕ) → rem_from w p r f (n + m) ≡ rem_from w p (rem_from w p r f n) (λ i. f (n + i)) m
  unfolding rem_from
  rem_add r f n zero = ap (rem_from w p r f) (add-zero n)
  rem_add r f n (suc m) = ap (rem_from w p r f) (add-suc n m) ∙ ap (λ (x : ℕ). step w p x (f (n + m))) (rem_add r f n m)

  -- what a stretch starts from counts apart from its bits
  pub rem_from_law : (r : ℕ) (f : ℕ → ℕ) (n : ℕ) → rem_from w p r f n ≡ bit_xor (shift_n w p n r) (rem_of w p f n)
  unfolding rem_from shift_n step
  rem_from_law r f zero = sym (xor_zero_r r)
  rem_from_law r f (suc n) =
      rw (rem_from_law r f n, shift_xor) (xor_assoc (shift w p (shift_n w p n r)) (shift w p (rem_of w p f n)) (f n * p))

  -- JOIN: n bits and then m bits: the first part's remainder times x^m, and the second's
  pub join : (f : ℕ → ℕ) (n m : ℕ) → rem_of w p f (n + m) ≡ bit_xor (shift_n w p m (rem_of w p f n)) (rem_of w p (λ i. f (n + i)) m)
  join f n m = rem_add 0 f n m ∙ rem_from_law (rem_of w p f n) (λ i. f (n + i)) m

  -- ---- zero bits, and changed bits

  rem_zeros : (n : ℕ) → rem_of w p (λ i. 0) n ≡ 0
  rem_zeros n = linear (λ i. 0) (λ i. 0) n (λ i. omega arith) (λ i. omega arith) ∙ xor_self (rem_of w p (λ i. 0) n)

  -- n zero bits in front: as if they were not there
  pub zeros_before : (f : ℕ → ℕ) (n m : ℕ) → ((i : ℕ) → i < n → f i ≡ 0) → rem_of w p f (n + m) ≡ rem_of w p (λ i. f (n + i)) m
  zeros_before f n m h =
      rem_add 0 f n m ∙ ap (λ (x : ℕ). rem_from w p x (λ i. f (n + i)) m) (rem_ext 0 f (λ i. 0) n h ∙ rem_zeros n)

  -- m zero bits behind: times x^m
  pub zeros_behind : (f : ℕ → ℕ) (n m : ℕ) → ((i : ℕ) → i < m → f (n + i) ≡ 0) → rem_of w p f (n + m) ≡ shift_n w p m (rem_of w p f n)
  zeros_behind f n m h =
      let r = shift_n w p m (rem_of w p f n) in
      join f n m ∙ ap (bit_xor r) (rem_ext 0 (λ i. f (n + i)) (λ i. 0) m h ∙ rem_zeros m) ∙ xor_zero_r r

  -- k bits alone, behind n and before m zero bits: what they leave, times x^m
  pub alone : (d : ℕ → ℕ) (n k m : ℕ) → ((i : ℕ) → i < n → d i ≡ 0) → ((i : ℕ) → i < m → d (n + (k + i)) ≡ 0)
      → rem_of w p d (n + (k + m)) ≡ shift_n w p m (rem_of w p (λ i. d (n + i)) k)
  alone d n k m before behind = zeros_before d n (k + m) before ∙ zeros_behind (λ i. d (n + i)) k m behind

  -- CHANGED BITS: a change d of k bits behind n and before m others changes the remainder by what those k bits leave, times x^m
  pub rem_changed : (f d : ℕ → ℕ) (n k m : ℕ) → Bits f → Bits d → ((i : ℕ) → i < n → d i ≡ 0) → ((i : ℕ) → i < m → d (n + (k + i)) ≡ 0)
      → rem_of w p (added f d) (n + (k + m)) ≡ bit_xor (rem_of w p f (n + (k + m))) (shift_n w p m (rem_of w p (λ i. d (n + i)) k))
  rem_changed f d n k m hf hd before behind =
      linear f d (n + (k + m)) hf hd ∙ ap (bit_xor (rem_of w p f (n + (k + m)))) (alone d n k m before behind)
