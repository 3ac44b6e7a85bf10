-- The code word of 119 bits: it is sixteen bytes that begin with them, its checks are zero, and it is the only such word. Assumes nothing.
use Prim.Native.Nat.{ℕ, zero, suc, ◌+◌, ◌-◌, ◌*◌, ◌/◌, ◌<◌}
use mathlib.Core.Path.{◌≡◌, refl, sym, ap, ap₂, ◌∙◌}
use mathlib.Core.List.{List}
use native.Mathlib.Nat.{zero-add, zero-div}
use native.Mathlib.Omega.{arith}
use borrow.Author.Tests.{lt-ltb, le-ltb}
use lib.Bits.{bit_xor, xor_self}
use lib.Dec.{lit<}
use lib.ListN.{length, get_or, replicate, get_or-replicate}
use Rattle.bits.specs.Bits.{num, digit, bit_of, bit_at, pack, packs, Bits, Bytes}
use Rattle.bits.proofs.Xor.{xor_none}
use Rattle.prelude.proofs.Common.{by_bound}
use Rattle.prelude.proofs.Lists.{get_d_tabulate, get_d_past}
use Rattle.bits.proofs.Numbers.{num_lt, digit-num, digit_lt}
use Rattle.bits.proofs.Packing.{bit_of_lt, bit_of-packs, length-packs, packs-bit_of, packs_ext}
use Rattle.sizes.specs.Sizes.{element_bits, word_bits, check_bits, word_bytes, check_values}
use Rattle.hamming_matrix.specs.Sums.{column_taken, tail_sum, tail_of}
use Rattle.hamming.specs.Code.{checks_of, element_sum, joined, joined_word, coded, code_word}
use Rattle.hamming_matrix.proofs.Sums.{sum_same, sum_zero, sum_lt, sum_split, taken_same, taken_none, taken_lt}
use Rattle.hamming_matrix.proofs.Matrix.{column_lt, tail_sum_law, tail_back}

-- ---- 119 bits and nine

pub joined_low : (f : ℕ → ℕ) (p i : ℕ) → i < element_bits → joined f p i ≡ f i
unfolding joined
joined_low f p i h = rw (lt-ltb i element_bits h)

pub joined_high : (f : ℕ → ℕ) (p j : ℕ) → joined f p (element_bits + j) ≡ digit check_bits p j
unfolding joined
joined_high f p j = let e : element_bits + j - element_bits ≡ j = omega arith in rw (le-ltb (element_bits + j) element_bits (omega arith), e)

-- what holds of the first 119 and of those from 119 on holds of all
by_part : (P : ℕ → Type 0) → ((i : ℕ) → i < element_bits → P i) → ((j : ℕ) → P (element_bits + j)) → (i : ℕ) → P i
by_part P low high i = by_bound element_bits i (low i) (λ h. let e : element_bits + (i - element_bits) ≡ i = omega arith in rw e at (high (i - element_bits)))

pub joined_lt : (f : ℕ → ℕ) (p : ℕ) → Bits f → Bits (joined f p)
joined_lt f p b =
    by_part (λ i. joined f p i < 2) (λ i h. rw (joined_low f p i h) (b i)) (λ j. rw (joined_high f p j) (digit_lt check_bits p j))

pub joined_bit : (f : ℕ → ℕ) (p i : ℕ) → Bits f → i < word_bits → bit_at (joined_word f p) i ≡ joined f p i
joined_bit f p i b h = bit_of-packs 8 word_bytes (joined f p) i (joined_lt f p b) h

byte_lt : (k : ℕ) (f : ℕ → ℕ) → Bits f → k < word_bytes → get_or (pack word_bytes f) k 0 < 256
byte_lt k f b h = rw (get_d_tabulate 0 word_bytes (λ k. num 8 f (8 * k)) k h) (num_lt 8 f (8 * k) b)

pub pack_bytes : (f : ℕ → ℕ) → Bits f → Bytes (pack word_bytes f)
pack_bytes f b k = by_bound word_bytes k (byte_lt k f b) (λ h. rw (get_d_past 0 word_bytes (λ k. num 8 f (8 * k)) k h) (lit< tt))

-- the checks of the joined word: what the 119 add, and what the nine add
pub checks_joined : (f : ℕ → ℕ) (p : ℕ) → Bits f → checks_of (joined_word f p) ≡ bit_xor (element_sum f) (tail_sum p)
unfolding checks_of element_sum tail_sum
checks_joined f p b =
    let v = bit_at (joined_word f p) in
    sum_split (column_taken 0 v) element_bits check_bits
    ∙ ap₂ bit_xor
    (sum_same (column_taken 0 v) (column_taken 0 f) element_bits (λ i h. taken_same 0 0 v f i i (joined_bit f p i b (omega arith) ∙ joined_low f p i h) refl))
    (sum_same (λ j. column_taken 0 v (element_bits + j)) (column_taken element_bits (digit check_bits p)) check_bits
    (λ j h. taken_same 0 element_bits v (digit check_bits p) (element_bits + j) j (joined_bit f p (element_bits + j) b (omega arith) ∙ joined_high f p j)
    (omega arith)))

pub element_lt : (f : ℕ → ℕ) → Bits f → element_sum f < check_values
unfolding element_sum
element_lt f b =
    sum_lt check_bits (column_taken 0 f) element_bits (lit< tt) (λ i h. taken_lt 0 f i check_values b (rw (zero-add i) (column_lt i (omega arith))))

pub tail_sum_lt : (p : ℕ) → tail_sum p < check_values
unfolding tail_sum
tail_sum_lt p =
    sum_lt check_bits (column_taken element_bits (digit check_bits p)) check_bits (lit< tt)
    (λ j h. taken_lt element_bits (digit check_bits p) j check_values (digit_lt check_bits p) (column_lt (element_bits + j) (omega arith)))

pub checks_lt : (w : List ℕ) → checks_of w < check_values
unfolding checks_of
checks_lt w =
    sum_lt check_bits (column_taken 0 (bit_at w)) word_bits (lit< tt) (λ i h. taken_lt 0 (bit_at w) i check_values (bit_of_lt 8 w) (rw (zero-add i) (column_lt i h)))

-- ---- the code word

pub coded_long : (f : ℕ → ℕ) → length (coded f) ≡ word_bytes
unfolding coded
coded_long f = length-packs 8 word_bytes (joined f (tail_of (element_sum f)))

pub coded_bit : (f : ℕ → ℕ) (i : ℕ) → Bits f → i < element_bits → bit_at (coded f) i ≡ f i
unfolding coded
coded_bit f i b h =
    let p = tail_of (element_sum f) in joined_bit f p i b (omega arith) ∙ joined_low f p i h

pub coded_checks : (f : ℕ → ℕ) → Bits f → checks_of (coded f) ≡ 0
unfolding coded
coded_checks f b =
    checks_joined f (tail_of (element_sum f)) b
    ∙ ap (bit_xor (element_sum f)) (tail_sum_law (element_sum f) (element_lt f b))
    ∙ xor_self (element_sum f)

-- only the first 119 bits count
pub element_ext : (f g : ℕ → ℕ) → ((i : ℕ) → i < element_bits → f i ≡ g i) → element_sum f ≡ element_sum g
unfolding element_sum
element_ext f g e = sum_same (column_taken 0 f) (column_taken 0 g) element_bits (λ i h. taken_same 0 0 f g i i (e i h) refl)

joined_ext : (f g : ℕ → ℕ) (p : ℕ) → ((i : ℕ) → i < element_bits → f i ≡ g i) → (i : ℕ) → joined f p i ≡ joined g p i
joined_ext f g p e =
    by_part (λ i. joined f p i ≡ joined g p i) (λ i h. joined_low f p i h ∙ e i h ∙ sym (joined_low g p i h))
    (λ j. joined_high f p j ∙ sym (joined_high g p j))

pub coded_ext : (f g : ℕ → ℕ) → ((i : ℕ) → i < element_bits → f i ≡ g i) → coded f ≡ coded g
unfolding coded
coded_ext f g e =
    ap (λ (c : ℕ). joined_word f (tail_of c)) (element_ext f g e)
    ∙ packs_ext 8 word_bytes (joined f (tail_of (element_sum g))) (joined g (tail_of (element_sum g))) (λ i h. joined_ext f g (tail_of (element_sum g)) e i)

-- ---- it is the only one

-- a word is its own 119 bits and its own nine
module _ (w : List ℕ) (long : length w ≡ word_bytes) (bytes : Bytes w) where
  tail_bits_law : ℕ
  tail_bits_law = num check_bits (bit_at w) element_bits

  joined_own : (i : ℕ) → i < word_bits → bit_at w i ≡ joined (bit_at w) tail_bits_law i
  unfolding tail_bits_law
  joined_own =
      by_part (λ i. i < word_bits → bit_at w i ≡ joined (bit_at w) tail_bits_law i) (λ i h l. sym (joined_low (bit_at w) tail_bits_law i h))
      (λ j l. sym (digit-num check_bits (bit_at w) element_bits j (bit_of_lt 8 w) (omega arith)) ∙ sym (joined_high (bit_at w) tail_bits_law j))

  word_joined : w ≡ joined_word (bit_at w) tail_bits_law
  word_joined =
      sym (packs-bit_of 8 w bytes) ∙ ap (λ (n : ℕ). packs 8 n (bit_at w)) long
      ∙ packs_ext 8 word_bytes (bit_at w) (joined (bit_at w) tail_bits_law) joined_own

  tail_small : tail_bits_law < check_values
  unfolding tail_bits_law
  tail_small = num_lt check_bits (bit_at w) element_bits (bit_of_lt 8 w)

  pub coded_own : checks_of w ≡ 0 → w ≡ coded (bit_at w)
  unfolding coded
  coded_own e =
      let f = bit_at w in
      let none : bit_xor (element_sum f) (tail_sum tail_bits_law) ≡ 0 = sym (checks_joined f tail_bits_law (bit_of_lt 8 w)) ∙ ap checks_of (sym word_joined) ∙ e in
      let sums : element_sum f ≡ tail_sum tail_bits_law = xor_none (element_sum f) (tail_sum tail_bits_law) none in
      word_joined ∙ ap (joined_word f) (sym (ap tail_of sums ∙ tail_back tail_bits_law tail_small (tail_sum_lt tail_bits_law)))

-- a word of sixteen bytes whose checks are zero and whose first 119 bits are f is the code word of f
pub coded_only : (w : List ℕ) (f : ℕ → ℕ) → length w ≡ word_bytes → Bytes w → checks_of w ≡ 0 → ((i : ℕ) → i < element_bits → bit_at w i ≡ f i)
    → w ≡ coded f
coded_only w f long bytes e same = coded_own w long bytes e ∙ coded_ext (bit_at w) f same

-- ---- zeros

zero_bit : (i : ℕ) → i < word_bits → bit_at (replicate word_bytes 0) i ≡ 0
unfolding bit_of digit
zero_bit i h = rw (get_or-replicate {A = ℕ} word_bytes (i / 8) 0 0 (omega arith), zero-div)

zero_byte : (n k : ℕ) → get_or (replicate n 0) k 0 < 256
zero_byte zero k = lit< tt
zero_byte (suc n) zero = lit< tt
zero_byte (suc n) (suc k) = zero_byte n k

zero_checks : checks_of (replicate word_bytes 0) ≡ 0
unfolding checks_of
zero_checks =
    let v = bit_at (replicate word_bytes 0) in sum_zero (column_taken 0 v) word_bits (λ i h. taken_none 0 v i (zero_bit i h))

pub coded_zero : coded (λ i. 0) ≡ replicate word_bytes 0
coded_zero =
    sym (coded_only (replicate word_bytes 0) (λ i. 0) refl (zero_byte word_bytes) zero_checks (λ i h. zero_bit i (omega arith)))

-- the element of zeros gives the word of zeros
pub word_zero : code_word (replicate word_bytes 0) ≡ replicate word_bytes 0
word_zero = coded_ext (bit_at (replicate word_bytes 0)) (λ i. 0) (λ i h. zero_bit i (omega arith)) ∙ coded_zero
