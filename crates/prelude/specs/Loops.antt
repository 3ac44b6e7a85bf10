-- What loops compute over the indices below a bound: a fold, the first index that a test picks, and how many it picks.
-- Assumes nothing: these are definitions.
use Rattle.std.specs.Prelude.{ℕ, zero, suc, Bool, cond}

-- g (k - 1) ( .. (g 1 (g 0 a)))
unfoldable pub upto : {A : Type 0} → (ℕ → A → A) → A → ℕ → A
upto g a zero = a
upto g a (suc k) = g k (upto g a k)

-- the least k below n with p k, or n
unfoldable pub first : (ℕ → Bool) → ℕ → ℕ
first p zero = zero
first p (suc n) = cond (p zero) zero (suc (first (λ k. p (suc k)) n))

-- how many numbers below n the test p picks
unfoldable pub count : (ℕ → Bool) → ℕ → ℕ
count p zero = zero
count p (suc n) = cond (p n) (suc (count p n)) (count p n)
