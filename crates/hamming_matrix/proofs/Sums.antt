-- The laws of `sum_to` and of sums of columns: one term more, parts, blocks, and that they are linear. Assumes nothing.
use Prim.Native.Nat.{ℕ, zero, suc, ◌+◌, ◌*◌, ◌%◌, ◌^◌, ◌<◌, ◌≤◌}
use mathlib.Core.Bool.{cond}
use mathlib.Core.Path.{◌≡◌, refl, sym, ap, ap₂, ◌∙◌}
use native.Mathlib.Nat.{add-zero, add-suc, mul-zero, mul-suc, zero-mul, one-mul}
use native.Mathlib.Numerals.{add-one}
use native.Mathlib.Decide.{ℕ_discrete}
use native.Mathlib.Omega.{arith}
use borrow.Author.Tests.{eq-eqb, ne_eqb}
use lib.Bits.{bit_xor, xor_zero_r, xor_zero_l, xor_lt}
use lib.Dec.{eqb, lit<}
use Rattle.bits.specs.Bits.{Bits}
use Rattle.bits.proofs.Xor.{xor_assoc, xor_swap, times_xor}
use Rattle.prelude.proofs.Common.{bit_times}
use Rattle.hamming_matrix.specs.Columns.{column_of}
use Rattle.hamming_matrix.specs.Sums.{sum_to, column_taken}

-- ---- any sum

pub sum_more : (f : ℕ → ℕ) (n : ℕ) → sum_to f (n + 1) ≡ bit_xor (sum_to f n) (f n)
unfolding sum_to
sum_more f n = ap (sum_to f) (add-one n)

pub sum_same : (f g : ℕ → ℕ) (n : ℕ) → ((i : ℕ) → i < n → f i ≡ g i) → sum_to f n ≡ sum_to g n
unfolding sum_to
sum_same f g zero e = refl
sum_same f g (suc n) e = ap₂ bit_xor (sum_same f g n (λ i h. e i (omega arith))) (e n (omega arith))

pub sum_zero : (f : ℕ → ℕ) (n : ℕ) → ((i : ℕ) → i < n → f i ≡ 0) → sum_to f n ≡ 0
unfolding sum_to
sum_zero f zero e = refl
sum_zero f (suc n) e = ap₂ bit_xor (sum_zero f n (λ i h. e i (omega arith))) (e n (omega arith))

-- a sum of numbers of k digits has k
pub sum_lt : (k : ℕ) (f : ℕ → ℕ) (n : ℕ) → 0 < 2 ^ k → ((i : ℕ) → i < n → f i < 2 ^ k) → sum_to f n < 2 ^ k
unfolding sum_to
sum_lt k f zero p h = p
sum_lt k f (suc n) p h = xor_lt k (sum_to f n) (f n) (sum_lt k f n p (λ i l. h i (omega arith))) (h n (omega arith))

pub sum_xor : (f g : ℕ → ℕ) (n : ℕ) → sum_to (λ i. bit_xor (f i) (g i)) n ≡ bit_xor (sum_to f n) (sum_to g n)
unfolding sum_to
sum_xor f g zero = refl
sum_xor f g (suc n) = ap (λ (x : ℕ). bit_xor x (bit_xor (f n) (g n))) (sum_xor f g n) ∙ xor_swap (sum_to f n) (sum_to g n) (f n) (g n)

-- the first m terms and the n after them
pub sum_split : (f : ℕ → ℕ) (m n : ℕ) → sum_to f (m + n) ≡ bit_xor (sum_to f m) (sum_to (λ k. f (m + k)) n)
unfolding sum_to
sum_split f m zero = ap (sum_to f) (add-zero m) ∙ sym (xor_zero_r (sum_to f m))
sum_split f m (suc n) =
    ap (sum_to f) (add-suc m n) ∙ ap (λ (x : ℕ). bit_xor x (f (m + n))) (sum_split f m n)
    ∙ xor_assoc (sum_to f m) (sum_to (λ k. f (m + k)) n) (f (m + n))

-- n blocks of m terms
pub sum_blocks : (f : ℕ → ℕ) (m n : ℕ) → sum_to f (m * n) ≡ sum_to (λ k. sum_to (λ j. f (m * k + j)) m) n
unfolding sum_to
sum_blocks f m zero = ap (sum_to f) (mul-zero m)
sum_blocks f m (suc n) =
    ap (sum_to f) (mul-suc m n) ∙ sum_split f (m * n) m
    ∙ ap (λ (x : ℕ). bit_xor x (sum_to (λ j. f (m * n + j)) m)) (sum_blocks f m n)

-- a loop that adds up the first n terms: k are in
pub record Summed (f : ℕ → ℕ) (n k acc : ℕ) : Type 0 where
  pub within : k ≤ n
  pub is : acc ≡ sum_to f k

pub summed_none : {f : ℕ → ℕ} {n : ℕ} → Summed f n 0 0
unfolding sum_to
summed_none = record { within = omega arith; is = refl }

pub summed_more : {f : ℕ → ℕ} {n k acc v : ℕ} → Summed f n k acc → k < n → v ≡ f k → Summed f n (k + 1) (bit_xor acc v)
summed_more {f} {n} {k} {acc} {v} e h p = record { within = omega arith; is = ap₂ bit_xor e.is p ∙ sym (sum_more f k) }

pub summed_all : {f : ℕ → ℕ} {n k acc : ℕ} → Summed f n k acc → n ≤ k → acc ≡ sum_to f n
summed_all {f} {n} {k} {acc} e h = let q : k ≡ n = omega (arith, e.within) in e.is ∙ ap (sum_to f) q

-- ---- sums of columns

-- 1 at i and 0 elsewhere
unfoldable pub unit : ℕ → ℕ → ℕ
unit i j = cond (eqb i j) 1 0

pub unit_same : (i j : ℕ) → i ≡ j → unit i j ≡ 1
unfolding unit
unit_same i j e = rw (eq-eqb i j e)

pub unit_other : (i j : ℕ) → (i ≡ j → ⊥) → unit i j ≡ 0
unfolding unit
unit_other i j ne = rw (ne_eqb i j ne)

unit_cases : (i j : ℕ) → Dec (i ≡ j) → unit i j < 2
unit_cases i j (yes e) = rw (unit_same i j e) (lit< tt)
unit_cases i j (no ne) = rw (unit_other i j ne) (lit< tt)

pub unit_lt : (i : ℕ) → Bits (unit i)
unit_lt i j = unit_cases i j (ℕ_discrete i j)

-- bits that agree take the same columns
pub taken_same : (a b : ℕ) (f g : ℕ → ℕ) (i j : ℕ) → f i ≡ g j → a + i ≡ b + j → column_taken a f i ≡ column_taken b g j
unfolding column_taken
taken_same a b f g i j e p = rw (e, p)

pub taken_none : (a : ℕ) (f : ℕ → ℕ) (i : ℕ) → f i ≡ 0 → column_taken a f i ≡ 0
unfolding column_taken
taken_none a f i e = rw (e, zero-mul)

pub taken_lt : (a : ℕ) (f : ℕ → ℕ) (i n : ℕ) → Bits f → column_of (a + i) < n → column_taken a f i < n
unfolding column_taken
taken_lt a f i n h k = bit_times (f i) (column_of (a + i)) n (h i) k

-- where the bits are sums of bits, so are the sums of columns
pub taken_xor : (a : ℕ) (f g h : ℕ → ℕ) (n : ℕ) → Bits f → Bits g → ((i : ℕ) → i < n → h i ≡ (f i + g i) % 2)
    → sum_to (column_taken a h) n ≡ bit_xor (sum_to (column_taken a f) n) (sum_to (column_taken a g) n)
unfolding column_taken
taken_xor a f g h n bf bg e =
    sum_same (column_taken a h) (λ i. bit_xor (column_taken a f i) (column_taken a g i)) n (λ i l. rw (e i l) (times_xor (f i) (g i) (column_of (a + i)) (bf i) (bg i)))
    ∙ sum_xor (column_taken a f) (column_taken a g) n

-- one bit takes its column
sum_step : (a i n : ℕ) → i < suc n → (i < n → sum_to (column_taken a (unit i)) n ≡ column_of (a + i)) → Dec (i ≡ n)
    → sum_to (column_taken a (unit i)) (suc n) ≡ column_of (a + i)
unfolding sum_to column_taken
sum_step a i n l ih (yes e) =
    ap₂ bit_xor (sum_zero (column_taken a (unit i)) n (λ j h. taken_none a (unit i) j (unit_other i j (λ q. absurd (omega arith)))))
    (rw (unit_same i n e, one-mul, e))
    ∙ xor_zero_l (column_of (a + i))
sum_step a i n l ih (no ne) =
    ap₂ bit_xor (ih (omega arith)) (taken_none a (unit i) n (unit_other i n ne)) ∙ xor_zero_r (column_of (a + i))

pub sum_unit : (a i n : ℕ) → i < n → sum_to (column_taken a (unit i)) n ≡ column_of (a + i)
sum_unit a i zero l = absurd (omega arith)
sum_unit a i (suc n) l = sum_step a i n l (sum_unit a i n) (ℕ_discrete i n)
