-- The laws of `num` and `digit`, over the width: digits of a number, its front and its back, a loop that takes bits in. Assumes nothing.
use Prim.Native.Nat.{ℕ, zero, suc, ◌+◌, ◌-◌, ◌*◌, ◌/◌, ◌%◌, ◌^◌, ◌≤◌, ◌<◌}
use mathlib.Core.Path.{◌≡◌, refl, sym, ap, ◌∙◌}
use native.Mathlib.Nat.{div-div-eq-div-mul, add-zero, add-suc, add_assoc, pow-suc, sub-zero, div-eq_of_lt, div-add-mod', lt_of_lt_of_le, zero-add}
use native.Mathlib.Nat.{sub_self, div-one}
use native.Mathlib.Numerals.{add-one, one-add}
use native.Mathlib.Omega.{arith}
use lib.Pow.{high, low, pow_mono, pow_pos}
use Rattle.bits.specs.Bits.{num, digit, Bits}

-- ---- num: a number from its bits

pub num_lt : (w : ℕ) (f : ℕ → ℕ) (a : ℕ) → Bits f → num w f a < 2 ^ w
unfolding num
num_lt zero f a h = omega arith
num_lt (suc w) f a h = omega (arith, num_lt w f a h, h (a + w))

pub num_ext : (w : ℕ) (f g : ℕ → ℕ) (a b : ℕ) → ((j : ℕ) → j < w → f (a + j) ≡ g (b + j)) → num w f a ≡ num w g b
unfolding num
num_ext zero f g a b h = refl
num_ext (suc w) f g a b h = rw (num_ext w f g a b (λ j l. h j (omega arith)), h w (omega arith))

-- one digit more is twice the number and the digit, which fits w bits while there is room
pub num_more : (j : ℕ) (f : ℕ → ℕ) (a : ℕ) → num (j + 1) f a ≡ num j f a * 2 + f (a + j)
unfolding num
num_more j f a = rw add-one

pub num_room : (w j : ℕ) (f : ℕ → ℕ) (a : ℕ) → Bits f → j < w → num j f a * 2 + f (a + j) < 2 ^ w
unfolding num
num_room w j f a h l = lt_of_lt_of_le (num_lt (suc j) f a h) (pow_mono l)

-- ---- a loop that takes w bits into a number, the first on top: acc = acc * 2 + bit. j bits are in.
-- Let acc be wider than w bits (a u32 for a byte), so that `small` is all that the sums ask, and cast it when the loop is done
pub record Packed (w j : ℕ) (f : ℕ → ℕ) (a acc : ℕ) : Type 0 where
  pub within : j ≤ w
  pub small : acc < 2 ^ w
  pub is : acc ≡ num j f a

pub packed_none : {w : ℕ} {f : ℕ → ℕ} {a : ℕ} → Packed w 0 f a 0
unfolding num
packed_none {w} = record { within = omega arith; small = pow_pos w; is = refl }

pub packed_more : {w j : ℕ} {f : ℕ → ℕ} {a acc b : ℕ} → Packed w j f a acc → Bits f → j < w → b ≡ f (a + j) → Packed w (j + 1) f a (acc * 2 + b)
packed_more {w} {j} {f} {a} {acc} {b} e h l q =
    record { within = omega arith; small = rw (e.is, q) (num_room w j f a h l); is = rw (e.is, q) (sym (num_more j f a)) }

pub packed_all : {w j : ℕ} {f : ℕ → ℕ} {a acc : ℕ} → Packed w j f a acc → w ≤ j → acc ≡ num w f a
packed_all {w} {j} {f} {a} {acc} e l = let q : j ≡ w = omega (arith, e.within) in rw (e.is, q)

-- the first v of v + w digits, and the last w
pub num_split : (v w : ℕ) (f : ℕ → ℕ) (a : ℕ) → num (v + w) f a ≡ num v f a * 2 ^ w + num w f (a + v)
unfolding num
num_split v zero f a = rw add-zero (omega arith)
num_split v (suc w) f a = rw (add-suc, num_split v w f a, ← add_assoc, pow-suc) (omega arith)

pub num_front : (v w : ℕ) (f : ℕ → ℕ) (a : ℕ) → Bits f → num (v + w) f a / 2 ^ w ≡ num v f a
num_front v w f a h = rw (num_split v w f a) (high (num v f a) w (num_lt w f (a + v) h))

pub num_back : (v w : ℕ) (f : ℕ → ℕ) (a : ℕ) → Bits f → num (v + w) f a % 2 ^ w ≡ num w f (a + v)
num_back v w f a h = rw (num_split v w f a) (low (num v f a) w (num_lt w f (a + v) h))

num_last : (j : ℕ) (f : ℕ → ℕ) (a : ℕ) → Bits f → num (suc j) f a % 2 ≡ f (a + j)
unfolding num
num_last j f a h = omega (arith, h (a + j))

-- its digit j is f (a + j)
pub digit-num : (w : ℕ) (f : ℕ → ℕ) (a j : ℕ) → Bits f → j < w → digit w (num w f a) j ≡ f (a + j)
unfolding digit
digit-num w f a j h l =
    let e : w ≡ suc j + (w - 1 - j) = omega arith in
    ap (λ (n : ℕ). num n f a / 2 ^ (w - 1 - j) % 2) e ∙ rw (num_front (suc j) (w - 1 - j) f a h) (num_last j f a h)

-- a window moves on by one bit
pub num_next : (w : ℕ) (f : ℕ → ℕ) (a : ℕ) → Bits f → num w f (a + 1) ≡ (num w f a * 2 + f (a + w)) % 2 ^ w
unfolding num
num_next w f a h = sym (num_back 1 w f a h) ∙ ap (λ (n : ℕ). num n f a % 2 ^ w) (one-add w)

-- a digit is a bit
pub digit_lt : (w x : ℕ) → Bits (digit w x)
unfolding digit
digit_lt w x j = omega arith

digits_front : (w v x : ℕ) → x < 2 ^ w → v ≤ w → num v (digit w x) 0 ≡ x / 2 ^ (w - v)
unfolding num digit
digits_front w zero x h l = rw sub-zero (sym (div-eq_of_lt h))
digits_front w (suc v) x h l =
    let e : w - v ≡ suc (w - suc v) = omega arith in
    let k : w - 1 - (0 + v) ≡ w - suc v = omega arith in
    let half : x / 2 ^ (w - v) ≡ x / 2 ^ (w - suc v) / 2 = rw (e, pow-suc) (sym (div-div-eq-div-mul x (2 ^ (w - suc v)) 2)) in
    rw (digits_front w v x h (omega arith), k, half) (div-add-mod' (x / 2 ^ (w - suc v)) 2)

-- a number is that of its digits
pub num-digit : (w x : ℕ) → x < 2 ^ w → num w (digit w x) 0 ≡ x
num-digit w x h = digits_front w w x h (omega arith) ∙ rw sub_self (div-one x)

-- so it is where f has its digits
pub num_is : (w : ℕ) (f : ℕ → ℕ) (a x : ℕ) → x < 2 ^ w → ((j : ℕ) → j < w → f (a + j) ≡ digit w x j) → num w f a ≡ x
num_is w f a x h e = num_ext w f (digit w x) a 0 (λ j l. e j l ∙ rw zero-add) ∙ num-digit w x h

-- zero digits make the number zero, and only they do
pub num-zero : (w : ℕ) (f : ℕ → ℕ) (a : ℕ) → ((j : ℕ) → j < w → f (a + j) ≡ 0) → num w f a ≡ 0
unfolding num
num-zero zero f a h = refl
num-zero (suc w) f a h = rw (num-zero w f a (λ j l. h j (omega arith)), h w (omega arith))

-- v digits of a number of w digits, from digit a on
pub num_part : (w v a x : ℕ) → x < 2 ^ w → a + v ≤ w → num v (digit w x) a ≡ x / 2 ^ (w - (a + v)) % 2 ^ v
num_part w v a x h l =
    ap (num v (digit w x)) (sym (zero-add a)) ∙ sym (num_back a v (digit w x) 0 (digit_lt w x))
    ∙ ap (λ (y : ℕ). y % 2 ^ v) (digits_front w (a + v) x h l)
