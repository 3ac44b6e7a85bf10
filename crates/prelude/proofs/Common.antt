-- Small laws that several crates cite: one answer only, tests that hold together, or do not, one of two bits, a bit times a number, a number below a
-- bound or not, and two functions that one test finds equal. Assumes nothing.
use Prim.Native.Nat.{ℕ, zero, suc, ◌*◌, ◌%◌, ◌<◌, ◌≤◌}
use mathlib.Core.Bool.{Bool, true, false, cond, ◌&&◌, ◌||◌}
use mathlib.Core.Path.{◌≡◌, refl, sym, ◌∙◌}
use native.Mathlib.Nat.{zero-mul, one-mul}
use native.Mathlib.Decide.{dec_lt}
use native.Mathlib.Omega.{arith}
use borrow.Author.Tests.{ltb-true, ltb-false}
use lib.Dec.{T, ltb, eqb, eqb→eq}
use Rattle.prelude.proofs.Tables.{below_all, each}

-- a contract that is an equation with a definition has one answer
pub only : {A : Type 0} {x y e : A} → x ≡ e → y ≡ e → x ≡ y
only p q = p ∙ sym q

-- a test does not come out both ways
pub clash : {b : Bool} → b ≡ true → b ≡ false → ⊥
clash p q = let z : ◌≡◌ {A = ℕ} 0 1 = cc in omega arith

-- two tests that hold together
pub and_left : (a b : Bool) → a && b ≡ true → a ≡ true
and_left true b e = refl
and_left false b e = e

pub and_right : (a b : Bool) → a && b ≡ true → b ≡ true
and_right true b e = e
and_right false b e = absurd (clash e refl)

-- two tests of which neither holds
pub or_left : (a b : Bool) → a || b ≡ false → a ≡ false
or_left true b e = e
or_left false b e = refl

pub or_right : (a b : Bool) → a || b ≡ false → b ≡ false
or_right true b e = absurd (clash refl e)
or_right false b e = e

-- tests in turn, of which `o` is the first: it holds, or the others decide
pub or_first : (b : Bool) {a o : Bool} → o ≡ a → o ≡ true → true ≡ a || b
or_first b p q = rw (← p, q)

pub or_next : {a b o r : Bool} → o ≡ a → o ≡ false → r ≡ b → r ≡ a || b
or_next p q e = rw (← p, q, e)

-- two comparisons that come out the same
pub same_test : (a b x y : ℕ) → (a < b → x < y) → (x < y → a < b) → ltb a b ≡ ltb x y
same_test a b x y p q = by (ltb a b) (ltb x y) refl refl
  where
    by : (u v : Bool) → ltb a b ≡ u → ltb x y ≡ v → u ≡ v
    by true true e h = refl
    by false false e h = refl
    by true false e h = absurd (omega (arith, p (ltb-true a b e), ltb-false x y h))
    by false true e h = absurd (omega (arith, q (ltb-true x y h), ltb-false a b e))

-- one of two bits is a bit
pub cond_bit : (t : Bool) (x y : ℕ) → x < 2 → y < 2 → cond t x y < 2
cond_bit true x y p q = p
cond_bit false x y p q = q

-- a bit times a number below n is below n
pub bit_times : (b c n : ℕ) → b < 2 → c < n → b * c < n
bit_times zero c n h k = rw zero-mul (omega arith)
bit_times (suc zero) c n h k = rw one-mul k
bit_times (suc (suc b)) c n h k = absurd (omega arith)

-- what is not even is odd
pub odd_of : (x : ℕ) → (x % 2 ≡ 0 → ⊥) → x % 2 ≡ 1
odd_of x h = omega arith

-- a number is below n, or not
bound_at : {A : Type 0} (n i : ℕ) → (i < n → A) → (n ≤ i → A) → Dec (i < n) → A
bound_at n i low high (yes h) = low h
bound_at n i low high (no g) = high (omega arith)

pub by_bound : {A : Type 0} (n i : ℕ) → (i < n → A) → (n ≤ i → A) → A
by_bound n i low high = bound_at n i low high (dec_lt i n)

-- two functions that one computed test finds equal below n are equal there
pub agree : (f g : ℕ → ℕ) (n : ℕ) → T (below_all (λ i. eqb (f i) (g i)) n) → (i : ℕ) → i < n → f i ≡ g i
agree f g n t i h = eqb→eq (f i) (g i) (each (λ i. eqb (f i) (g i)) n t i h)
