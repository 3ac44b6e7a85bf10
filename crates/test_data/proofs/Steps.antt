-- What the generator has become, and what it has given out, after one step more. Assumes nothing.
use Prim.Native.Nat.{ℕ, ◌+◌, ◌≤◌}
use mathlib.Core.Path.{◌≡◌, refl}
use native.Mathlib.Numerals.{add-one}
use native.Mathlib.Omega.{arith}
use Rattle.prelude.specs.Loops.{upto}
use Rattle.test_data.specs.declared.Generator.{Generator}
use Rattle.test_data.specs.Generator.{next, number, after, made_by}

-- g is the generator that had the state x, k steps later
pub record At (x k : ℕ) (g : Generator) : Type 0 where
  pub is : g ≡ record { state = after x k }

pub at_start : (g : Generator) → At g.state 0 g
unfolding after upto
at_start g = record { is = refl }

pub at_step : {x k : ℕ} {g h : Generator} → At x k g → h ≡ record { state = next g.state } → At x (k + 1) h
unfolding after upto
at_step {x} {k} {g} {h} p q = record { is = rw (q, p.is, add-one) }

pub at_end : {x k : ℕ} {g : Generator} (n : ℕ) → At x k g → k ≤ n → n ≤ k → g ≡ record { state = after x n }
at_end {x} {k} {g} n p l m = let e : k ≡ n = omega arith in rw (p.is, e)

-- what is made of what it gives out then
pub gives : {A : Type 0} (made : ℕ → A) {x v : ℕ} {e : A} {h : Generator} (k : ℕ) → At x (k + 1) h → v ≡ number h.state → e ≡ made v → e ≡ made_by made x k
unfolding made_by
gives made {x} {v} {e} {h} k p q r = rw (r, q, p.is, add-one)
