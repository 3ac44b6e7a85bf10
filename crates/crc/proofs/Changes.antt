-- The CRC: its generator as numbers, its size, the bits that it depends on, and how it changes with them. The two complements cancel in a
-- change. Assumes nothing.
use Prim.Native.Nat.{ℕ, ◌+◌, ◌-◌, ◌%◌, ◌^◌, ◌<◌}
use mathlib.Core.Bool.{Bool, true, false, cond}
use mathlib.Core.Path.{◌≡◌, refl, sym, ap, ◌∙◌}
use native.Mathlib.Omega.{arith}
use lib.Bits.{bit_xor, xor_lt}
use lib.Dec.{ltb}
use lib.Pow.{ones_lt}
use Rattle.sizes.specs.Sizes.{crc_bits}
use Rattle.bits.specs.Bits.{added, Bits}
use Rattle.bits.proofs.Xor.{xor_assoc}
use Rattle.crc.specs.Remainder.{polynomial, rem_from}
use Rattle.crc.specs.Division.{generator}
use Rattle.crc.specs.Crc.{powers, width, poly, crc_step, crc_shift_n, crc_rem, opened, ones, crc_of}
use Rattle.crc.proofs.Linear as any

-- ---- the generator

-- the code's constant is what the printed powers below x^32 make
pub poly_is : poly ≡ 0x04C11DB7
unfolding poly polynomial
poly_is = refl

-- the width, which the list of powers begins with, is the size of the CRC field
pub width_is : width ≡ crc_bits
width_is = refl

pub poly_lt : poly < 2 ^ width
poly_lt = rw poly_is (omega arith)

-- what the laws of Divide.antt divide by is all that document 01 prints ("One FEC block")
pub generator_is : generator width poly ≡ polynomial powers
unfolding poly polynomial
generator_is = refl

-- ---- the laws of Linear.antt that other crates cite, at this generator

pub crc_rem_ext : (r : ℕ) (f g : ℕ → ℕ) (n : ℕ) → ((i : ℕ) → i < n → f i ≡ g i) → rem_from width poly r f n ≡ rem_from width poly r g n
crc_rem_ext = any.rem_ext width poly

pub crc_rem_more : {r b x : ℕ} (s : ℕ) (f : ℕ → ℕ) (n : ℕ) → r ≡ rem_from width poly s f n → b ≡ f n → x ≡ crc_step r b → x ≡ rem_from width poly s f (n + 1)
crc_rem_more = any.rem_more width poly

-- a stretch taken in piece by piece: m more bits, which g has from 0 on
pub crc_rem_piece : {r x : ℕ} (f g : ℕ → ℕ) (n m : ℕ) → r ≡ crc_rem f n → ((i : ℕ) → i < m → g i ≡ f (n + i)) → x ≡ rem_from width poly r g m → x ≡ crc_rem f (n + m)
crc_rem_piece f g n m e h q =
    q ∙ crc_rem_ext _ g (λ i. f (n + i)) m h ∙ ap (λ (r : ℕ). rem_from width poly r (λ i. f (n + i)) m) e ∙ sym (any.rem_add width poly 0 f n m)

pub crc_alone : (d : ℕ → ℕ) (n k m : ℕ) → ((i : ℕ) → i < n → d i ≡ 0) → ((i : ℕ) → i < m → d (n + (k + i)) ≡ 0)
    → crc_rem d (n + (k + m)) ≡ crc_shift_n m (crc_rem (λ i. d (n + i)) k)
crc_alone = any.alone width poly

-- ---- the complements

cond_lt : (t : Bool) (x : ℕ) → x < 2 → cond t (1 - x) x < 2
cond_lt true x h = omega arith
cond_lt false x h = h

pub opened_lt : (f : ℕ → ℕ) → Bits f → Bits (opened f)
unfolding opened
opened_lt f h i = cond_lt (ltb i 32) (f i) (h i)

cond_sum : (t : Bool) (x d : ℕ) → x < 2 → cond t (1 - (x + d) % 2) ((x + d) % 2) ≡ (cond t (1 - x) x + d) % 2
cond_sum true x d h = omega arith
cond_sum false x d h = refl

-- ---- the CRC

-- the CRC has 32 digits
pub crc_lt : (n : ℕ) (f : ℕ → ℕ) → Bits f → crc_of n f < 2 ^ 32
unfolding crc_of
crc_lt n f h = xor_lt 32 ones (crc_rem (opened f) n) (ones_lt 32) (any.rem_lt width poly poly_lt (opened f) n (opened_lt f h))

-- only the n bits count
pub crc_ext : (n : ℕ) (f g : ℕ → ℕ) → ((i : ℕ) → i < n → f i ≡ g i) → crc_of n f ≡ crc_of n g
unfolding crc_of opened
crc_ext n f g h = ap (bit_xor ones) (crc_rem_ext 0 (opened f) (opened g) n (λ i l. rw (h i l)))

-- a change d of the bits changes the CRC by what d leaves, without complements
pub crc_change_law : (n : ℕ) (f g d : ℕ → ℕ) → Bits f → Bits d → ((i : ℕ) → i < n → g i ≡ (f i + d i) % 2)
    → crc_of n g ≡ bit_xor (crc_of n f) (crc_rem d n)
unfolding crc_of opened
crc_change_law n f g d hf hd h =
    ap (bit_xor ones)
    (crc_rem_ext 0 (opened g) (added (opened f) d) n (λ i l. rw (h i l) (cond_sum (ltb i 32) (f i) (d i) (hf i)))
    ∙ any.linear width poly (opened f) d n (opened_lt f hf) hd)
    ∙ sym (xor_assoc ones (crc_rem (opened f) n) (crc_rem d n))
