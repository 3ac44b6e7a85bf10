-- `rem_of` is the remainder of a division, whatever the width w and what x^w leaves, p, of w digits: value · x^w = quotient · generator +
-- remainder, the remainder has degree below w (`rem_lt` of Linear), and there is no other such remainder. Sums and products are without
-- carries. Assumes nothing.
use Prim.Native.Nat.{ℕ, zero, suc, ◌+◌, ◌*◌, ◌/◌, ◌%◌, ◌^◌, ◌<◌}
use mathlib.Core.Path.{◌≡◌, refl, sym, ap, ap₂, ◌∙◌}
use native.Mathlib.Nat.{mod-lt, zero-add, zero-mul, zero-div, mul_assoc, pow-suc, div-eq_of_lt, div-lt_iff_lt-mul}
use native.Mathlib.Omega.{arith}
use lib.Bits.{bit_xor, xor_self, xor_comm, xor_lt, xor_shr, xor_shifted}
use lib.Pow.{pow_pos, split, high}
use Rattle.bits.specs.Bits.{num, digit, added, Bits}
use Rattle.bits.proofs.Xor.{xor_none, xor_assoc, xor_swap, times_xor, double}
use Rattle.prelude.proofs.Common.{bit_times}
use Rattle.bits.proofs.Numbers.{digit_lt}
use Rattle.crc.specs.Remainder.{shift, step, rem_from, rem_of}
use Rattle.crc.specs.Division.{generator, times, quotient}
use Rattle.crc.proofs.Linear.{top_digit, rem_lt}

xor_left : (a b c : ℕ) → bit_xor a (bit_xor b c) ≡ bit_xor b (bit_xor a c)
xor_left a b c = sym (xor_assoc a b c) ∙ ap (λ (x : ℕ). bit_xor x c) (xor_comm a b) ∙ xor_assoc b a c

-- x and y are added twice
xor_twice : (a b c x y : ℕ) → bit_xor (bit_xor a c) b ≡ bit_xor (bit_xor (bit_xor a b) (bit_xor x y)) (bit_xor (bit_xor c x) y)
xor_twice a b c x y = simp (xor_assoc, xor_comm, xor_left, xor_self)

-- a sum of quotients
times_sum : (a b : ℕ → ℕ) (n g : ℕ) → Bits a → Bits b → times (added a b) n g ≡ bit_xor (times a n g) (times b n g)
unfolding times
times_sum a b zero g ha hb = refl
times_sum a b (suc n) g ha hb =
    ap₂ (λ (x y : ℕ). bit_xor (x * 2) y) (times_sum a b n g ha hb) (times_xor (a n) (b n) g (ha n) (hb n))
    ∙ ap (λ (x : ℕ). bit_xor x (bit_xor (a n * g) (b n * g))) (double (times a n g) (times b n g))
    ∙ xor_swap (times a n g * 2) (times b n g * 2) (a n * g) (b n * g)

module _ (w p : ℕ) (small : p < 2 ^ w) where
  pub quotient_lt : (f : ℕ → ℕ) → Bits (quotient w p f)
  unfolding quotient
  quotient_lt f n = omega arith

  -- the generator times a bit, and the digit of it at x^w
  gen_sum : (q : ℕ) → q * generator w p ≡ q * 2 ^ w + q * p
  gen_sum q = omega arith

  gen_top : (q : ℕ) → q < 2 → q * generator w p / 2 ^ w ≡ q
  gen_top q h = rw (gen_sum q) (high q w (bit_times q p (2 ^ w) h small))

  -- a bit b is taken in by the remainder r: r·x + b·x^w is the quotient's bit times the generator, and the next remainder
  take_in : (r b : ℕ) → r < 2 ^ w → b < 2 → bit_xor (r * 2) (b * 2 ^ w) ≡ bit_xor ((digit w r 0 + b) % 2 * generator w p) (step w p r b)
  unfolding step shift
  take_in r b h k =
      let t = digit w r 0 in
      let q = (t + b) % 2 in
      let l = r * 2 % 2 ^ w in
      let few : q * p < 2 ^ w = bit_times q p (2 ^ w) (mod-lt (t + b) (omega arith)) small in
      let top : r * 2 ≡ bit_xor (t * 2 ^ w) l =
      sym (split (r * 2) w) ∙ ap (λ (x : ℕ). x * 2 ^ w + l) (sym (top_digit w r h)) ∙ sym (xor_shifted t w l (mod-lt (r * 2) (pow_pos w))) in
      let whole : q * generator w p ≡ bit_xor (q * 2 ^ w) (q * p) = gen_sum q ∙ sym (xor_shifted q w (q * p) few) in
      let bits : (g : ℕ) → q * g ≡ bit_xor (t * g) (b * g) = λ g. times_xor t b g (digit_lt w r 0) k in
      ap (λ (x : ℕ). bit_xor x (b * 2 ^ w)) top ∙ rw (whole, bits (2 ^ w), bits p) (xor_twice (t * 2 ^ w) (b * 2 ^ w) l (t * p) (b * p))

  -- DIVISION
  pub division : (f : ℕ → ℕ) (n : ℕ) → Bits f → num n f 0 * 2 ^ w ≡ bit_xor (times (quotient w p f) n (generator w p)) (rem_of w p f n)
  unfolding num times quotient rem_from
  division f zero h = zero-mul (2 ^ w)
  division f (suc n) h =
      let v = num n f 0 in
      let t = times (quotient w p f) n (generator w p) in
      let r = rem_of w p f n in
      rw (zero-add, one_more v (f n) (h n), division f n h, double t r)
      (xor_assoc (t * 2) (r * 2) (f n * 2 ^ w) ∙ ap (bit_xor (t * 2)) (take_in r (f n) (rem_lt w p small f n h) (h n))
      ∙ sym (xor_assoc (t * 2) (quotient w p f n * generator w p) (step w p r (f n))))
    where
      one_more : (v b : ℕ) → b < 2 → (v * 2 + b) * 2 ^ w ≡ bit_xor (v * 2 ^ w * 2) (b * 2 ^ w)
      one_more v b h =
          let e : (v * 2 + b) * 2 ^ w ≡ v * 2 ^ w * 2 + b * 2 ^ w = omega arith in
          let d : v * 2 ^ w * 2 ≡ v * 2 ^ suc w = rw pow-suc (mul_assoc v (2 ^ w) 2) in
          let s : b * 2 ^ w < 2 ^ suc w = bit_times b (2 ^ w) (2 ^ suc w) h (omega (arith, pow_pos w)) in
          rw (e, d) (sym (xor_shifted v (suc w) (b * 2 ^ w) s))

  -- ---- there is no other remainder

  -- a multiple of the generator of degree below w is zero
  small_multiple : (q : ℕ → ℕ) (n : ℕ) → Bits q → times q n (generator w p) < 2 ^ w → times q n (generator w p) ≡ 0
  unfolding times
  small_multiple q zero h l = refl
  small_multiple q (suc n) h l =
      let g = generator w p in
      let t = times q n g in
      let tops : t * 2 / 2 ^ w ≡ q n =
      xor_none (t * 2 / 2 ^ w) (q n * g / 2 ^ w) (sym (xor_shr (t * 2) (q n * g) w) ∙ div-eq_of_lt l) ∙ gen_top (q n) (h n) in
      let low : t < 2 ^ w = omega (arith, (div-lt_iff_lt-mul {x = t * 2} {y = 2} (pow_pos w)).0 (rw tops (h n))) in
      let none : t ≡ 0 = small_multiple q n h low in
      let bit : q n ≡ 0 = sym tops ∙ ap (λ (x : ℕ). x * 2 / 2 ^ w) none ∙ zero-div (2 ^ w) in
      ap₂ (λ (x y : ℕ). bit_xor (x * 2) (y * g)) none bit ∙ zero-mul g

  -- UNIQUENESS: whatever quotient one finds, the remainder is `rem_of`
  pub only_remainder : (f q : ℕ → ℕ) (n r : ℕ) → Bits f → Bits q → r < 2 ^ w
      → num n f 0 * 2 ^ w ≡ bit_xor (times q n (generator w p)) r → r ≡ rem_of w p f n
  only_remainder f q n r hf hq hr e =
      let u = quotient w p f in
      let a = times q n (generator w p) in
      let b = times u n (generator w p) in
      let s = rem_of w p f n in
      let sums : bit_xor a b ≡ bit_xor r s =
      xor_none (bit_xor a b) (bit_xor r s)
      (xor_swap a b r s ∙ ap (λ (x : ℕ). bit_xor x (bit_xor b s)) (sym e ∙ division f n hf) ∙ xor_self (bit_xor b s)) in
      let whole : times (added q u) n (generator w p) ≡ bit_xor r s = times_sum q u n (generator w p) hq (quotient_lt f) ∙ sums in
      let low : times (added q u) n (generator w p) < 2 ^ w = rw whole (xor_lt w r s hr (rem_lt w p small f n hf)) in
      xor_none r s (sym whole ∙ small_multiple (added q u) n (λ i. mod-lt (q i + u i) (omega arith)) low)
