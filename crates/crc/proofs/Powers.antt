-- Powers of x, whatever the width w and what x^w leaves, p: a remainder times x^n is its product with what x^n leaves, so that x^(2n) is
-- the square of x^n. Multiplying by x passes through sums (`shift_xor`), hence through Horner's rule; that and 1·r = r are all that it
-- takes. Assumes nothing.
use Prim.Native.Nat.{ℕ, zero, suc, ◌+◌, ◌*◌, ◌/◌, ◌%◌, ◌^◌, ◌≤◌, ◌<◌}
use mathlib.Core.Path.{◌≡◌, refl, sym, ap, ap₂, ◌∙◌}
use native.Mathlib.Nat.{zero-add, suc-add, zero-mul, one-mul, mul-one, pow-suc, mod-eq_of_lt, div-eq_of_lt}
use native.Mathlib.Omega.{arith}
use lib.Bits.{bit_xor, xor_zero_r, xor_shifted}
use lib.Pow.{pow_mono, pow-lt}
use Rattle.bits.specs.Bits.{num, digit}
use Rattle.prelude.specs.Loops.{upto}
use Rattle.bits.proofs.Numbers.{digit_lt, num_lt, num-digit}
use Rattle.crc.specs.Remainder.{shift, shift_n}
use Rattle.crc.specs.Steps.{product_step, product}
use Rattle.crc.proofs.Linear.{top_digit, shift_lt, shift_xor, shift_zero}

module _ (w p : ℕ) where
  -- m times after n times
  pub shifts_add : (m n r : ℕ) → shift_n w p (m + n) r ≡ shift_n w p m (shift_n w p n r)
  unfolding shift_n
  shifts_add zero n r = ap (λ (x : ℕ). shift_n w p x r) (zero-add n)
  shifts_add (suc m) n r = ap (λ (x : ℕ). shift_n w p x r) (suc-add m n) ∙ ap (shift w p) (shifts_add m n r)

  -- ---- x passes through a product

  shift_digit_times : (d a : ℕ) → d < 2 → shift w p (d * a) ≡ d * shift w p a
  shift_digit_times zero a h = ap (shift w p) (zero-mul a) ∙ shift_zero w p ∙ sym (zero-mul (shift w p a))
  shift_digit_times (suc zero) a h = ap (shift w p) (one-mul a) ∙ sym (one-mul (shift w p a))
  shift_digit_times (suc (suc d)) a h = absurd (omega arith)

  shift_product : (a b k : ℕ) → shift w p (upto (product_step w p a b) 0 k) ≡ upto (product_step w p (shift w p a) b) 0 k
  unfolding upto product_step
  shift_product a b zero = shift_zero w p
  shift_product a b (suc k) =
      shift_xor w p (shift w p (upto (product_step w p a b) 0 k)) (digit w b k * a)
      ∙ ap₂ bit_xor (ap (shift w p) (shift_product a b k)) (shift_digit_times (digit w b k) a (digit_lt w b k))

  shifts_product : (n a b : ℕ) → shift_n w p n (product w p a b) ≡ product w p (shift_n w p n a) b
  unfolding shift_n
  shifts_product zero a b = refl
  shifts_product (suc n) a b = ap (shift w p) (shifts_product n a b) ∙ shift_product (shift_n w p n a) b w

  -- ---- 1·b is b

  -- where no digit leaves on top, x doubles
  shift_low : (r : ℕ) → r * 2 < 2 ^ w → shift w p r ≡ r * 2
  unfolding shift
  shift_low r h = rw (top_digit w r (omega arith), div-eq_of_lt h, mod-eq_of_lt h, zero-mul) (xor_zero_r (r * 2))

  -- the first k digits of b
  one_times : (b k : ℕ) → k ≤ w → upto (product_step w p 1 b) 0 k ≡ num k (digit w b) 0
  unfolding upto product_step num
  one_times b zero h = refl
  one_times b (suc k) h =
      let v = num k (digit w b) 0 in
      let d = digit w b k in
      let low : v * 2 < 2 ^ w = omega (arith, num_lt k (digit w b) 0 (digit_lt w b), pow_mono h) in
      ap₂ bit_xor (ap (shift w p) (one_times b k (omega arith)) ∙ shift_low v low) (mul-one d)
      ∙ xor_shifted v 1 d (digit_lt w b k)
      ∙ ap (λ (x : ℕ). v * 2 + digit w b x) (sym (zero-add k))

  -- ---- powers of x

  -- POWER: r times what x^n leaves is what r·x^n leaves
  pub by_power : (n r : ℕ) → r < 2 ^ w → product w p (shift_n w p n 1) r ≡ shift_n w p n r
  by_power n r h = sym (shifts_product n 1 r) ∙ ap (shift_n w p n) (one_times r w (omega arith) ∙ num-digit w r h)

  -- below x^w nothing is taken away
  low_power : (m : ℕ) → m < w → shift_n w p m 1 ≡ 2 ^ m
  unfolding shift_n
  low_power zero h = refl
  low_power (suc m) h =
      ap (shift w p) (low_power m (omega arith)) ∙ shift_low (2 ^ m) (rw (← (pow-suc 2 m)) (pow-lt h)) ∙ sym (pow-suc 2 m)

  -- as the code shifts
  pub power_low : (m : ℕ) → m < w → 1 * 2 ^ m % 2 ^ w ≡ shift_n w p m 1
  power_low m h = rw (one-mul, mod-eq_of_lt (pow-lt h)) (sym (low_power m h))

module _ (w p : ℕ) (some : 0 < w) (small : p < 2 ^ w) where
  power_lt : (n : ℕ) → shift_n w p n 1 < 2 ^ w
  unfolding shift_n
  power_lt zero = pow-lt some
  power_lt (suc n) = shift_lt w p small (shift_n w p n 1)

  -- the square s of h, which is x^(m/2)
  squared : (m h s : ℕ) → h ≡ shift_n w p (m / 2) 1 → s ≡ product w p h h → s ≡ shift_n w p (m / 2 + m / 2) 1
  squared m h s e q =
      let n = m / 2 in
      q ∙ ap₂ (product w p) e e ∙ by_power w p n (shift_n w p n 1) (power_lt n) ∙ sym (shifts_add w p n n 1)

  -- EVEN and ODD: x^m from that square
  pub power_even : (m h s : ℕ) → h ≡ shift_n w p (m / 2) 1 → s ≡ product w p h h → m % 2 ≡ 0 → s ≡ shift_n w p m 1
  power_even m h s e q even =
      let twice : m / 2 + m / 2 ≡ m = omega arith in
      squared m h s e q ∙ ap (λ (x : ℕ). shift_n w p x 1) twice

  pub power_odd : (m h s x : ℕ) → h ≡ shift_n w p (m / 2) 1 → s ≡ product w p h h → x ≡ shift w p s → (m % 2 ≡ 0 → ⊥) → x ≡ shift_n w p m 1
  unfolding shift_n
  power_odd m h s x e q r odd =
      let twice : suc (m / 2 + m / 2) ≡ m = omega arith in
      r ∙ ap (shift w p) (squared m h s e q) ∙ ap (λ (x : ℕ). shift_n w p x 1) twice
