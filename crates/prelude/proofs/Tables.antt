-- A rule holds at every number below a bound where one test that antt computes passes: how a table is tested once. (The entries of a
-- table that is the list of a function's values are `get_or_tabulate`, by computing.)
-- Assumes nothing.
use mathlib.Core.Path.{◌≡◌, subst, sym}
use mathlib.Core.Bool.{Bool, true, false}
use Prim.Native.Nat.{ℕ, zero, suc, ◌<◌}
use native.Mathlib.Nat.{not-suc-le-zero}
use native.Mathlib.Decide.{ℕ_discrete}
use native.Mathlib.Omega.{arith}
use lib.Dec.{T}

abbrev pub both : Bool → Bool → Bool
both true b = b
both false b = false

pub both_left : (a b : Bool) → T (both a b) → T a
both_left true b t = tt
both_left false b t = t

pub both_right : (a b : Bool) → T (both a b) → T b
both_right true b t = t
both_right false b t = absurd t

-- the test f passes at each number below n
abbrev pub below_all : (ℕ → Bool) → ℕ → Bool
below_all f zero = true
below_all f (suc n) = both (f n) (below_all f n)

each_step : (f : ℕ → Bool) (n : ℕ) → T (below_all f (suc n)) → (k : ℕ) → k < suc n → (k < n → T (f k)) → Dec (k ≡ n) → T (f k)
each_step f n t k h ih (yes e) = subst (λ (m : ℕ). T (f m)) (sym e) (both_left (f n) (below_all f n) t)
each_step f n t k h ih (no ne) = ih (omega arith)

pub each : (f : ℕ → Bool) (n : ℕ) → T (below_all f n) → (k : ℕ) → k < n → T (f k)
each f zero t k h = absurd (not-suc-le-zero h)
each f (suc n) t k h = each_step f n t k h (each f n (both_right (f n) (below_all f n) t) k) (ℕ_discrete k n)
