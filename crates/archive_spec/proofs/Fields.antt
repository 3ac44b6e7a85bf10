-- Numbers in bytes, over how many bytes: a number's bytes are read as that number, and the bytes of a number that was read are those that were read.
-- Assumes nothing.
use Prim.Native.Nat.{ℕ, ◌+◌, ◌-◌, ◌*◌, ◌/◌, ◌%◌, ◌^◌, ◌≤◌, ◌<◌}
use mathlib.Core.Path.{◌≡◌, refl, sym, ap, ◌∙◌}
use mathlib.Core.List.{List}
use native.Mathlib.Nat.{lt_of_lt_of_le}
use native.Mathlib.Omega.{arith}
use lib.ListN.{length, get_or, take, drop}
use lib.Pow.{pow_mono}
use Rattle.prelude.proofs.Lists.{part_long}
use Rattle.bits.specs.Bits.{num, digit, bit_at, packs, Bytes}
use Rattle.bits.proofs.Numbers.{num_lt, num_split, num_is, num_part, digit-num, digit_lt}
use Rattle.bits.proofs.Packing.{bit_of_lt, bit_of_part, bit_of-packs, num-bit_of, packs-bit_of, packs_ext, length-packs, part_bytes}
use Rattle.archive_spec.specs.File.{bytes_of, number_at}
use Rattle.archive_spec.specs.Steps.{Number}

pub bytes_long : (k x : ℕ) → length (bytes_of k x) ≡ k
bytes_long k x = length-packs 8 k (digit (8 * k) x)

pub number_lt : (k : ℕ) (s : List ℕ) (a : ℕ) → number_at k s a < 2 ^ (8 * k)
unfolding number_at
number_lt k s a = num_lt (8 * k) (bit_at s) (8 * a) (bit_of_lt 8 s)

-- ---- there and back

pub number_of_law : (k : ℕ) (s : List ℕ) (a x : ℕ) → x < 2 ^ (8 * k) → take k (drop a s) ≡ bytes_of k x → number_at k s a ≡ x
unfolding number_at
number_of_law k s a x h e =
    num_is (8 * k) (bit_at s) (8 * a) x h
    (λ j l. sym (bit_of_part 8 s a k j l) ∙ ap (λ (p : List ℕ). bit_at p j) e ∙ bit_of-packs 8 k (digit (8 * k) x) j (digit_lt (8 * k) x) l)

pub bytes_of_law : (k : ℕ) (s : List ℕ) (a : ℕ) → Bytes s → a + k ≤ length s → bytes_of k (number_at k s a) ≡ take k (drop a s)
unfolding number_at
bytes_of_law k s a h l =
    let p = take k (drop a s) in
    packs_ext 8 k (digit (8 * k) (num (8 * k) (bit_at s) (8 * a))) (bit_at p)
    (λ i m. digit-num (8 * k) (bit_at s) (8 * a) i (bit_of_lt 8 s) m ∙ sym (bit_of_part 8 s a k i m))
    ∙ ap (λ (n : ℕ). packs 8 n (bit_at p)) (sym (part_long a k s l))
    ∙ packs-bit_of 8 p (part_bytes s a k h)

-- ---- as code takes a number in and writes it

-- one byte more
number_more : (j : ℕ) (s : List ℕ) (a b : ℕ) → b ≡ get_or s (a + j) 0 → b < 256 → number_at j s a * 256 + b ≡ number_at (j + 1) s a
unfolding number_at
number_more j s a b e h =
    let low : num 8 (bit_at s) (8 * a + 8 * j) ≡ b =
    ap (num 8 (bit_at s)) (omega arith) ∙ num-bit_of 8 s (a + j) (rw (← e) h) ∙ sym e in
    sym (ap (λ (w : ℕ). num w (bit_at s) (8 * a)) (omega arith) ∙ num_split (8 * j) 8 (bit_at s) (8 * a) ∙ ap (λ (y : ℕ). num (8 * j) (bit_at s) (8 * a) * 256 + y) low)

-- j of k bytes are in, where no number has more than four
pub record NumberTo (k : ℕ) (s : List ℕ) (a j x : ℕ) : Type 0 where
  pub within : j ≤ k
  pub is : x ≡ number_at j s a
  pub small : x < 4294967296

pub number_none : {k : ℕ} {s : List ℕ} {a : ℕ} → NumberTo k s a 0 0
unfolding number_at num
number_none = record { within = omega arith; is = refl; small = omega arith }

few_bytes : (j : ℕ) (s : List ℕ) (a : ℕ) → j ≤ 4 → number_at j s a < 4294967296
few_bytes j s a h = lt_of_lt_of_le (number_lt j s a) (pow_mono {i = 8 * j} {j = 32} (omega arith))

pub number_next : {k : ℕ} {s : List ℕ} {a j x b : ℕ} → NumberTo k s a j x → j < k → k ≤ 4 → b ≡ get_or s (a + j) 0 → b < 256
    → NumberTo k s a (j + 1) (x * 256 + b)
number_next {k} {s} {a} {j} {x} {b} n l h e m =
    let more : x * 256 + b ≡ number_at (j + 1) s a = rw n.is (number_more j s a b e m) in
    record { within = omega arith; is = more; small = rw more (few_bytes (j + 1) s a (omega arith)) }

pub number_all : {k : ℕ} {s : List ℕ} {a j x : ℕ} → NumberTo k s a j x → k ≤ j → Number k s a x
number_all {k} {s} {a} {j} {x} n l =
    let q : j ≡ k = omega (arith, n.within) in
    let e : x ≡ number_at k s a = n.is ∙ ap (λ (i : ℕ). number_at i s a) q in
    record { is = e; small = rw e (number_lt k s a) }

-- byte j of k
pub byte_of_number : (k x j : ℕ) → x < 2 ^ (8 * k) → j < k → x / 2 ^ (8 * (k - 1 - j)) % 256 ≡ num 8 (digit (8 * k) x) (8 * j)
byte_of_number k x j h l =
    let e : 8 * (k - 1 - j) ≡ 8 * k - (8 * j + 8) = omega arith in
    rw e (sym (num_part (8 * k) 8 (8 * j) x h (omega arith)))
