-- The laws of `specs/Loops.antt`, and the rulesets that close the needs of a loop whose invariant is one of the records. Assumes nothing.
use Prim.Native.Nat.{ℕ, zero, suc, ◌+◌, ◌≤◌, ◌<◌}
use mathlib.Core.Bool.{Bool, true, false, cond}
use mathlib.Core.Path.{◌≡◌, refl, sym, ap, ◌∙◌}
use native.Mathlib.Nat.{not-suc-le-zero, le_of_suc-le-suc}
use native.Mathlib.Numerals.{add-one}
use native.Mathlib.Omega.{arith}
use borrow.Author.Count.{below_more}
use borrow.Author.Tests.{lt-ltb, le-ltb, le-leb, lt-leb, eq-eqb, ne_eqb}
use borrow.Author.Rules.{rules}
use Rattle.prelude.specs.Loops.{upto, first}
use Rattle.prelude.proofs.Lists.{filled_none, filled_more, filled_all, filled_at}

-- ---- a fold. The accumulator after k turns
pub record Folded {A : Type 0} (g : ℕ → A → A) (a : A) (k : ℕ) (acc : A) : Type 0 where
  pub is : acc ≡ upto g a k

pub folded_none : {A : Type 0} {g : ℕ → A → A} {a : A} → Folded g a 0 a
unfolding upto
folded_none = record { is = refl }

pub folded_more : {A : Type 0} {g : ℕ → A → A} {a : A} {k : ℕ} {acc v : A} → Folded g a k acc → v ≡ g k acc → Folded g a (k + 1) v
unfolding upto
folded_more {A} {g} {a} {k} {acc} {v} e p = record { is = rw (p, e.is, add-one) }

pub folded_all : {A : Type 0} {g : ℕ → A → A} {a : A} {k : ℕ} {acc : A} (n : ℕ) → Folded g a k acc → k ≤ n → n ≤ k → acc ≡ upto g a n
folded_all {A} {g} {a} {k} {acc} n e p q = let r : k ≡ n = omega arith in rw (e.is, r)

-- ---- a search. None of the first i is picked
pub record PassedOver (i : ℕ) (p : ℕ → Bool) (n : ℕ) : Type 0 where
  pub within : i ≤ n
  pub none : (k : ℕ) → k < i → p k ≡ false

pub passed_none : {p : ℕ → Bool} {n : ℕ} → PassedOver 0 p n
passed_none = record { within = omega arith; none = λ k h. absurd (not-suc-le-zero h) }

pub passed_more : {i : ℕ} {p : ℕ → Bool} {n : ℕ} → PassedOver i p n → i < n → p i ≡ false → PassedOver (i + 1) p n
passed_more {i} {p} {n} e h q = record { within = omega arith; none = below_more (λ k. p k ≡ false) i e.none q }

-- the first that p picks, by what it says of those before it
pub first_is : (p : ℕ → Bool) (i n : ℕ) → ((k : ℕ) → k < i → p k ≡ false) → i < n → p i ≡ true → first p n ≡ i
unfolding first
first_is p i zero h l q = absurd (not-suc-le-zero l)
first_is p zero (suc n) h l q = rw q
first_is p (suc i) (suc n) h l q =
    rw (h 0 (omega arith)) (ap suc (first_is (λ k. p (suc k)) i n (λ k m. h (suc k) (omega arith)) (le_of_suc-le-suc l) q))

pub first_none : (p : ℕ → Bool) (n : ℕ) → ((k : ℕ) → k < n → p k ≡ false) → first p n ≡ n
unfolding first
first_none p zero h = refl
first_none p (suc n) h = rw (h 0 (omega arith)) (ap suc (first_none (λ k. p (suc k)) n (λ k m. h (suc k) (omega arith))))

-- where the loop stops early, and where it comes to the end
pub first_here : {i : ℕ} {p : ℕ → Bool} {n : ℕ} → PassedOver i p n → i < n → p i ≡ true → i ≡ first p n
first_here {i} {p} {n} e h q = sym (first_is p i n e.none h q)

pub first_end : {i : ℕ} {p : ℕ → Bool} {n : ℕ} → PassedOver i p n → n ≤ i → i ≡ first p n
first_end {i} {p} {n} e h = let q : i ≡ n = omega (arith, e.within) in q ∙ sym (first_none p n (λ k l. e.none k (omega arith)))

-- the same, where `o` is what a callee that tests i came to
pub found_here : {i : ℕ} {p : ℕ → Bool} {n : ℕ} {o : Bool} → PassedOver i p n → i < n → o ≡ p i → o ≡ true → i ≡ first p n
found_here e h q t = first_here e h (sym q ∙ t)

pub found_more : {i : ℕ} {p : ℕ → Bool} {n : ℕ} {o : Bool} → PassedOver i p n → i < n → o ≡ p i → o ≡ false → PassedOver (i + 1) p n
found_more e h q f = passed_more e h (sym q ∙ f)

-- what is known of `first`: it is at most n; nothing before it is picked; and below n it is picked itself
pub record First (p : ℕ → Bool) (n k : ℕ) : Type 0 where
  pub within : k ≤ n
  pub none : (i : ℕ) → i < k → p i ≡ false
  pub here : k < n → p k ≡ true

first_step : (p : ℕ → Bool) (n k : ℕ) (b : Bool) → p 0 ≡ b → First (λ i. p (suc i)) n k → First p (suc n) (cond b 0 (suc k))
first_step p n k true e r = record { within = omega arith; none = λ i h. absurd (not-suc-le-zero h); here = λ h. e }
first_step p n k false e r =
    record { within = omega (arith, r.within); none = early; here = λ h. r.here (le_of_suc-le-suc h) }
  where
    early : (i : ℕ) → i < suc k → p i ≡ false
    early zero h = e
    early (suc i) h = r.none i (le_of_suc-le-suc h)

pub first_holds : (p : ℕ → Bool) (n : ℕ) → First p n (first p n)
unfolding first
first_holds p zero = record { within = omega arith; none = λ i h. absurd (not-suc-le-zero h); here = λ h. absurd (not-suc-le-zero h) }
first_holds p (suc n) = first_step p n (first (λ k. p (suc k)) n) (p 0) refl (first_holds (λ k. p (suc k)) n)

-- two tests that agree below n have the same first
pub first_ext : (p q : ℕ → Bool) (n : ℕ) → ((k : ℕ) → k < n → p k ≡ q k) → first p n ≡ first q n
unfolding first
first_ext p q zero h = refl
first_ext p q (suc n) h = rw (h 0 (omega arith), first_ext (λ k. p (suc k)) (λ k. q (suc k)) n (λ k l. h (suc k) (omega arith)))

-- the tests of a specification that goes by cases, from what the branches say: `search tests`
pub ruleset tests = (lt-ltb, le-ltb, le-leb, lt-leb, eq-eqb, ne_eqb)

-- what closes every need of a loop whose invariant is one of these records: `search loops`
pub ruleset loops = (
  filled_none,
  filled_more,
  filled_all,
  folded_none,
  folded_more,
  folded_all,
  passed_none,
  passed_more,
  first_here,
  first_end,
  filled_at,
  tests,
  rules,
)
