-- What is proved of the matrix: 128 columns of nine digits, all non-zero (the row of ones), all different; the last nine are independent, so
-- that exactly one choice of the nine check bits makes the checks zero. Each is one test over the whole table.
-- Assumes nothing.
use Prim.Native.Nat.{ℕ, suc, ◌-◌, ◌*◌, ◌/◌, ◌%◌, ◌<◌}
use mathlib.Core.Bool.{Bool, true, false, cond}
use mathlib.Core.List.{List, [], ◌∷◌}
use mathlib.Core.Path.{◌≡◌, refl, sym, ap, ◌∙◌}
use native.Mathlib.Nat.{mul-one, le_of_suc-le-suc, not-suc-le-zero}
use native.Mathlib.Omega.{arith}
use borrow.Author.Tests.{eqb-true}
use lib.Bits.{bit_xor, xor_self, xor_lt}
use lib.Dec.{T, eqb, ltb, eqb→eq, ltb→lt}
use lib.ListN.{length, get_or}
use Rattle.prelude.specs.Lists.{tabulate}
use Rattle.bits.specs.Bits.{digit}
use Rattle.bits.proofs.Numbers.{digit_lt}
use Rattle.bits.proofs.Xor.{xor_none, digit_xor}
use Rattle.prelude.proofs.Common.{agree}
use Rattle.prelude.proofs.Tables.{both, both_left, both_right, each}
use Rattle.sizes.specs.Sizes.{element_bits, word_bits, check_bits, check_values}
use Rattle.hamming_matrix.specs.Columns.{columns, column_of, place_in, position_of}
use Rattle.hamming_matrix.specs.Sums.{sum_to, column_taken, tail_sum, tail_sums, tail_of}
use Rattle.hamming_matrix.proofs.Sums.{taken_xor}

pub columns_long : length columns ≡ word_bits
unfolding columns
columns_long = refl

-- the lowest digit of column i is 1, so it is not zero
pub column_odd : (i : ℕ) → i < word_bits → column_of i % 2 ≡ 1
unfolding column_of columns
column_odd = agree (λ i. column_of i % 2) (λ i. 1) word_bits tt

pub column_not_zero : (i : ℕ) → i < word_bits → column_of i ≡ 0 → ⊥
column_not_zero i h e = omega (arith, column_odd i h)

-- it has nine digits
pub column_lt : (i : ℕ) → i < word_bits → column_of i < check_values
unfolding column_of columns
column_lt i h = let e : column_of i / check_values ≡ 0 = agree (λ i. column_of i / check_values) (λ i. 0) word_bits tt i h in omega arith

-- its place among the columns is i, so no other has its number
pub position_column : (i : ℕ) → i < word_bits → position_of (column_of i) ≡ i
unfolding position_of place_in column_of columns
position_column = agree (λ i. position_of (column_of i)) (λ i. i) word_bits tt

pub columns_differ : (i j : ℕ) → i < word_bits → j < word_bits → column_of i ≡ column_of j → i ≡ j
columns_differ i j h k e = sym (position_column i h) ∙ ap position_of e ∙ position_column j k

-- what stands at a place that was found is what was looked for
place_step : (l : List ℕ) (y x : ℕ) (b : Bool) → eqb y x ≡ b → (place_in l x < length l → get_or l (place_in l x) 0 ≡ x)
    → cond b 0 (suc (place_in l x)) < suc (length l) → get_or (y ∷ l) (cond b 0 (suc (place_in l x))) 0 ≡ x
place_step l y x true e ih h = eqb-true y x e
place_step l y x false e ih h = ih (le_of_suc-le-suc h)

place_found : (l : List ℕ) (x : ℕ) → place_in l x < length l → get_or l (place_in l x) 0 ≡ x
unfolding place_in
place_found [] x h = absurd (not-suc-le-zero h)
place_found (y ∷ l) x h = place_step l y x (eqb y x) refl (place_found l x) h

pub column_position : (c : ℕ) → position_of c < word_bits → column_of (position_of c) ≡ c
unfolding position_of column_of
column_position c h = place_found columns c (rw columns_long h)

-- an even number is no column
pub no_column_even : (c : ℕ) → c < check_values → c % 2 ≡ 0 → position_of c ≡ word_bits
unfolding position_of place_in columns
no_column_even c h e =
    let p : c ≡ 2 * (c / 2) = omega arith in
    ap position_of p ∙ agree (λ k. position_of (2 * k)) (λ k. word_bits) 256 tt (c / 2) (omega arith)

-- ---- the last nine

-- the check bits that the search finds for c are nine, and add c
found : ℕ → ℕ → Bool
found c p = both (ltb p check_values) (eqb (tail_sum p) c)

tails_found : (c : ℕ) → c < check_values → T (found c (tail_of c))
unfolding found tail_of tail_sums tail_sum sum_to column_taken tabulate digit place_in column_of columns
tails_found = each (λ c. found c (tail_of c)) check_values tt

pub tail_lt : (c : ℕ) → c < check_values → tail_of c < check_values
unfolding found
tail_lt c h = ltb→lt (tail_of c) check_values (both_left (ltb (tail_of c) check_values) (eqb (tail_sum (tail_of c)) c) (tails_found c h))

pub tail_sum_law : (c : ℕ) → c < check_values → tail_sum (tail_of c) ≡ c
unfolding found
tail_sum_law c h = eqb→eq (tail_sum (tail_of c)) c (both_right (ltb (tail_of c) check_values) (eqb (tail_sum (tail_of c)) c) (tails_found c h))

-- check bits add by sums of columns
pub tail_xor : (p q : ℕ) → tail_sum (bit_xor p q) ≡ bit_xor (tail_sum p) (tail_sum q)
unfolding tail_sum
tail_xor p q =
    taken_xor element_bits (digit check_bits p) (digit check_bits q) (digit check_bits (bit_xor p q)) check_bits (digit_lt check_bits p) (digit_lt check_bits q)
    (λ j h. digit_xor check_bits p q j)

-- they are independent: only no column at all adds zero
pub only_none : (p : ℕ) → p < check_values → tail_sum p ≡ 0 → p ≡ 0
unfolding tail_sum sum_to column_taken digit column_of columns
only_none p h e =
    let t : p * (1 - tail_sum p) ≡ 0 = agree (λ p. p * (1 - tail_sum p)) (λ p. 0) check_values tt p h in
    sym (mul-one p) ∙ ap (λ (x : ℕ). p * (1 - x)) (sym e) ∙ t

-- so no two choices add the same
pub independent : (p q : ℕ) → p < check_values → q < check_values → tail_sum p ≡ tail_sum q → p ≡ q
independent p q h k e =
    let z : bit_xor p q ≡ 0 = only_none (bit_xor p q) (xor_lt check_bits p q h k) (tail_xor p q ∙ rw e (xor_self (tail_sum q))) in
    xor_none p q z

-- the search finds those that were added
pub tail_back : (p : ℕ) → p < check_values → tail_sum p < check_values → tail_of (tail_sum p) ≡ p
tail_back p h l = independent (tail_of (tail_sum p)) p (tail_lt (tail_sum p) l) h (tail_sum_law (tail_sum p) l)
