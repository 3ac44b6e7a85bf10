-- NO NARROWER THAN DOCUMENT 01: every count and place that "GMP places" allows is a `Place`, and every count and stretch a `Stretch`; and the tests
-- refuse exactly what is none. Assumes nothing.
use Prim.Native.Nat.{ℕ, ◌+◌, ◌-◌, ◌≤◌}
use mathlib.Core.Bool.{Bool, false}
use mathlib.Core.Path.{◌≡◌, refl, sym, ◌∙◌}
use mathlib.Core.Logic.{◌↔◌}
use native.Mathlib.Omega.{arith}
use borrow.Author.Tests.{ltb-false, eqb-false, le-ltb}
use Rattle.prelude.proofs.Common.{or_left, or_right}
use Rattle.sizes.specs.Sizes.{places}
use Rattle.gmp.specs.Places.{outside_stretch}
use Rattle.gmp.specs.Answers.{outside_place}
use Rattle.gmp.specs.Steps.{Place, Stretch}

-- what tests of which none holds say: `search none_holds`
pub ruleset none_holds = (ltb-false, eqb-false, or_left, or_right)

module _ (c j : ℕ) where
  -- "a count C in 0..10,220, place j in 1..10,220"
  pub places_all : c ≤ 10220 → 1 ≤ j → j ≤ 10220 → Place c j
  places_all h l m = record { count = h; from = l; to = m }

  pub inside : {o : Bool} → o ≡ outside_place c j → o ≡ false → Place c j
  inside p q =
      let e : outside_place c j ≡ false = sym p ∙ q in
      search (places_all, none_holds)

  pub not_outside : Place c j → outside_place c j ≡ false
  not_outside p = rw (le-ltb places c p.count, le-ltb j 1 p.from, le-ltb places j p.to)

  pub places_exactly : (outside_place c j ≡ false) ↔ Place c j
  places_exactly = (inside refl, not_outside)

module _ (c f n : ℕ) where
  -- n places from place f on, also none, at or before the last
  pub stretches_all : c ≤ 10220 → 1 ≤ f → f + n - 1 ≤ 10220 → Stretch c f n
  stretches_all h l m = record { count = h; from = l; to = omega arith }

  pub stretch_in : {o : Bool} → o ≡ outside_stretch c f n → o ≡ false → Stretch c f n
  stretch_in p q =
      let e : outside_stretch c f n ≡ false = sym p ∙ q in
      search (stretches_all, none_holds)

  pub not_outside_stretch : Stretch c f n → outside_stretch c f n ≡ false
  not_outside_stretch s = rw (le-ltb places c s.count, le-ltb f 1 s.from, le-ltb places (f + n - 1) (omega (arith, s.to)))

  pub stretches_exactly : (outside_stretch c f n ≡ false) ↔ Stretch c f n
  stretches_exactly = (stretch_in refl, not_outside_stretch)
