-- NO NARROWER THAN DOCUMENT 01: every count and window that "GMP places" allows is a `Window`, and the test refuses exactly what is none.
-- Assumes nothing.
use Prim.Native.Nat.{ℕ, ◌+◌, ◌-◌, ◌%◌, ◌≤◌}
use mathlib.Core.Bool.{Bool, false}
use mathlib.Core.Path.{◌≡◌, refl, sym, ◌∙◌}
use mathlib.Core.Logic.{◌↔◌}
use native.Mathlib.Omega.{arith}
use borrow.Author.Tests.{le-ltb, ne_eqb}
use Rattle.gmp.specs.Steps.{Stretch}
use Rattle.gmp.proofs.Allowed.{none_holds, not_outside_stretch}
use Rattle.gmp_window.specs.Windows.{outside_window, Window}

not_even : (f : ℕ) → (f % 2 ≡ 0 → ⊥) → f % 2 ≡ 1
not_even f h = omega arith

not_odd : (n : ℕ) → (n % 2 ≡ 1 → ⊥) → n % 2 ≡ 0
not_odd n h = omega arith

-- any m of a window's places
pub stretch_of : (c f n m : ℕ) → Window c f n → m ≤ n → Stretch c f m
stretch_of c f n m w h = record { count = w.count; from = omega (arith, w.odd); to = omega (arith, w.odd, w.two, w.to) }

module _ (c f n : ℕ) where
  -- "a count C in 0..10,220"; "an odd first place f and an even number n ≥ 2 of places, ending at or before 10,220"
  pub windows_all : c ≤ 10220 → f % 2 ≡ 1 → n % 2 ≡ 0 → 2 ≤ n → f + n - 1 ≤ 10220 → Window c f n
  windows_all h o e l t = record { count = h; odd = o; even = e; two = l; to = t }

  pub window_in : {o : Bool} → o ≡ outside_window c f n → o ≡ false → Window c f n
  window_in p q =
      let e : outside_window c f n ≡ false = sym p ∙ q in
      search (windows_all, not_even, not_odd, none_holds)

  in_window : Window c f n → outside_window c f n ≡ false
  in_window w =
      rw (ne_eqb (f % 2) 0 (λ z. omega (arith, w.odd)), ne_eqb (n % 2) 1 (λ z. omega (arith, w.even)), le-ltb n 2 w.two)
      (not_outside_stretch c f n (stretch_of c f n n w (omega arith)))

  pub windows_exactly : (outside_window c f n ≡ false) ↔ Window c f n
  windows_exactly = (window_in refl, in_window)
