-- Laws of `bit_xor` that the library does not have, and how xor meets digits and bits. Assumes nothing.
use Prim.Native.Nat.{ℕ, zero, suc, ◌+◌, ◌-◌, ◌*◌, ◌/◌, ◌%◌, ◌^◌, ◌<◌}
use mathlib.Core.Path.{◌≡◌, refl, sym, ap, ap₂, ◌∙◌}
use mathlib.Core.List.{List}
use native.Mathlib.Nat.{mod-lt, zero-lt-suc, add-zero, zero-mul, one-mul}
use native.Mathlib.Omega.{arith}
use lib.Arith.{bin_ind, digits_mod}
use lib.Bits.{bit_xor, differ, xor_step, xor_comm, xor_self, xor_zero_l, xor_zero_r, xor_shr, xor_mod, xor_block}
use lib.ListN.{get_or}
use Rattle.bits.proofs.Packing.{bit_of_lt, num-bit_of}
use Rattle.bits.specs.Bits.{num, digit, bit_of, added, Bits}

two_pos : zero < 2
two_pos = zero-lt-suc 1

-- ---- on digits

differ_lt : (x y : ℕ) → x < 2 → y < 2 → differ x y < 2
differ_lt zero y h k = k
differ_lt (suc zero) zero h k = h
differ_lt (suc zero) (suc zero) h k = omega arith
differ_lt (suc zero) (suc (suc y)) h k = absurd (omega arith)
differ_lt (suc (suc x)) y h k = absurd (omega arith)

differ_assoc : (x y z : ℕ) → x < 2 → y < 2 → z < 2 → differ (differ x y) z ≡ differ x (differ y z)
differ_assoc zero y z h k l = refl
differ_assoc (suc zero) zero z h k l = refl
differ_assoc (suc zero) (suc zero) zero h k l = refl
differ_assoc (suc zero) (suc zero) (suc zero) h k l = refl
differ_assoc (suc zero) (suc zero) (suc (suc z)) h k l = absurd (omega arith)
differ_assoc (suc zero) (suc (suc y)) z h k l = absurd (omega arith)
differ_assoc (suc (suc x)) y z h k l = absurd (omega arith)

-- on bits it is the sum without the carry
pub differ_is : (a b : ℕ) → a < 2 → b < 2 → differ a b ≡ (a + b) % 2
differ_is zero b ha hb = omega arith
differ_is (suc zero) zero ha hb = refl
differ_is (suc zero) (suc zero) ha hb = refl
differ_is (suc zero) (suc (suc b)) ha hb = absurd (omega arith)
differ_is (suc (suc a)) b ha hb = absurd (omega arith)

-- ---- the halves and the low digit of an xor

xor_half : (a b : ℕ) → bit_xor a b / 2 ≡ bit_xor (a / 2) (b / 2)
xor_half a b = xor_shr a b 1

xor_odd : (a b : ℕ) → bit_xor a b % 2 ≡ differ (a % 2) (b % 2)
xor_odd a b = ap (λ (x : ℕ). x % 2) (xor_step a b) ∙ digits_mod (bit_xor (a / 2) (b / 2)) (differ_lt (a % 2) (b % 2) (mod-lt a two_pos) (mod-lt b two_pos))

pub xor_assoc : (a b c : ℕ) → bit_xor (bit_xor a b) c ≡ bit_xor a (bit_xor b c)
xor_assoc =
    bin_ind (λ (n : ℕ). (b c : ℕ) → bit_xor (bit_xor n b) c ≡ bit_xor n (bit_xor b c)) (λ b c. refl)
    (λ n ih b c. xor_step (bit_xor n b) c
    ∙ ap₂ (λ (x y : ℕ). bit_xor x (c / 2) * 2 + differ y (c % 2)) (xor_half n b) (xor_odd n b)
    ∙ ap₂ (λ (x y : ℕ). x * 2 + y) (ih (b / 2) (c / 2)) (differ_assoc (n % 2) (b % 2) (c % 2) (mod-lt n two_pos) (mod-lt b two_pos) (mod-lt c two_pos))
    ∙ ap₂ (λ (x y : ℕ). bit_xor (n / 2) x * 2 + differ (n % 2) y) (sym (xor_half b c)) (sym (xor_odd b c))
    ∙ sym (xor_step n (bit_xor b c)))

-- the middle two change places
pub xor_swap : (a b c d : ℕ) → bit_xor (bit_xor a b) (bit_xor c d) ≡ bit_xor (bit_xor a c) (bit_xor b d)
xor_swap a b c d =
    xor_assoc a b (bit_xor c d)
    ∙ ap (bit_xor a) (sym (xor_assoc b c d) ∙ ap (λ (x : ℕ). bit_xor x d) (xor_comm b c) ∙ xor_assoc c b d)
    ∙ sym (xor_assoc a c (bit_xor b d))

-- the same term twice is none
pub xor_cancel : (a b : ℕ) → bit_xor (bit_xor a b) b ≡ a
xor_cancel a b = xor_assoc a b b ∙ ap (bit_xor a) (xor_self b) ∙ xor_zero_r a

-- ---- what passes through an xor

-- digit by digit it is the sum without the carry
pub digit_xor : (w a b j : ℕ) → digit w (bit_xor a b) j ≡ (digit w a j + digit w b j) % 2
unfolding digit
digit_xor w a b j =
    let k = w - 1 - j in
    ap (λ (x : ℕ). x % 2) (xor_shr a b k) ∙ xor_odd (a / 2 ^ k) (b / 2 ^ k)
    ∙ differ_is (a / 2 ^ k % 2) (b / 2 ^ k % 2) (mod-lt (a / 2 ^ k) two_pos) (mod-lt (b / 2 ^ k) two_pos)

-- a bit times a number: the sum of two bits without the carry
pub times_xor : (a b g : ℕ) → a < 2 → b < 2 → (a + b) % 2 * g ≡ bit_xor (a * g) (b * g)
times_xor zero zero g h k = rw zero-mul
times_xor zero (suc zero) g h k = rw (zero-mul, one-mul)
times_xor (suc zero) zero g h k = rw (zero-mul, one-mul) (sym (xor_zero_r g))
times_xor (suc zero) (suc zero) g h k = rw (zero-mul, one-mul) (sym (xor_self g))
times_xor zero (suc (suc b)) g h k = absurd (omega arith)
times_xor (suc zero) (suc (suc b)) g h k = absurd (omega arith)
times_xor (suc (suc a)) b g h k = absurd (omega arith)

-- twice
pub double : (a b : ℕ) → bit_xor a b * 2 ≡ bit_xor (a * 2) (b * 2)
double a b =
    sym (add-zero (bit_xor a b * 2)) ∙ sym (xor_block 1 a b 0 0 two_pos two_pos) ∙ ap₂ bit_xor (add-zero (a * 2)) (add-zero (b * 2))

-- twice, cut to k digits
pub double_xor : (a b k : ℕ) → bit_xor a b * 2 % 2 ^ k ≡ bit_xor (a * 2 % 2 ^ k) (b * 2 % 2 ^ k)
double_xor a b k = ap (λ (x : ℕ). x % 2 ^ k) (double a b) ∙ xor_mod (a * 2) (b * 2) k

-- ---- numbers made of bits

top : (x b : ℕ) → b < 2 → (x * 2 + b) / 2 ≡ x
top x b h = omega arith

low1 : (x b : ℕ) → b < 2 → (x * 2 + b) % 2 ≡ b
low1 x b h = omega arith

-- numbers of bits: bit by bit
pub num_xor : (w : ℕ) (f g : ℕ → ℕ) (a : ℕ) → Bits f → Bits g → bit_xor (num w f a) (num w g a) ≡ num w (added f g) a
unfolding num
num_xor zero f g a hf hg = refl
num_xor (suc w) f g a hf hg =
    let p = hf (a + w) in
    let q = hg (a + w) in
    rw (
      xor_step (num w f a * 2 + f (a + w)) (num w g a * 2 + g (a + w)),
      top (num w f a) (f (a + w)) p,
      top (num w g a) (g (a + w)) q,
      low1 (num w f a) (f (a + w)) p,
      low1 (num w g a) (g (a + w)) q,
      num_xor w f g a hf hg,
      differ_is (f (a + w)) (g (a + w)) p q,
    )

-- lists of elements: element k of the sum
pub element_xor : (w : ℕ) (s t : List ℕ) (k : ℕ) → get_or s k 0 < 2 ^ w → get_or t k 0 < 2 ^ w
    → bit_xor (get_or s k 0) (get_or t k 0) ≡ num w (added (bit_of w s) (bit_of w t)) (w * k)
element_xor w s t k hs ht =
    ap₂ bit_xor (sym (num-bit_of w s k hs)) (sym (num-bit_of w t k ht)) ∙ num_xor w (bit_of w s) (bit_of w t) (w * k) (bit_of_lt w s) (bit_of_lt w t)

-- an xor is zero only of equals
pub xor_none : (a b : ℕ) → bit_xor a b ≡ 0 → a ≡ b
xor_none a b e = sym (xor_cancel a b) ∙ ap (λ (x : ℕ). bit_xor x b) e ∙ xor_zero_l b
