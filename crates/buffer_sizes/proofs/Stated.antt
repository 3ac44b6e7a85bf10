-- A stated length up to the greatest number that is allowed, and 0 beyond it. Assumes nothing.
use Prim.Native.Nat.{ℕ, ◌<◌, ◌≤◌}
use native.Mathlib.Omega.{arith}
use borrow.Author.Tests.{lt-ltb, le-ltb}
use Rattle.buffer_sizes.specs.Lengths.{Stated, up_to}

module _ (most : ℕ) (stated : ℕ → ℕ) (n : ℕ) where
  pub beyond : most < n → Stated (stated most) (up_to most stated n) 0
  beyond h = record { is = simp (lt-ltb most n h); fits = omega arith }

  pub within : n ≤ most → stated n ≤ stated most → Stated (stated most) (up_to most stated n) (stated n)
  within h f = record { is = simp (le-ltb most n h); fits = f }
