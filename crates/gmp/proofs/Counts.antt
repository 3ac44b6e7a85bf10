-- The number of data places of a stretch, as the code computes it. Assumes nothing.
use Prim.Native.Nat.{ℕ, ◌+◌, ◌-◌, ◌*◌, ◌/◌, ◌≤◌}
use mathlib.Core.Bool.{Bool, true}
use mathlib.Core.Path.{◌≡◌}
use native.Mathlib.Nat.{mul-le-mul}
use native.Mathlib.Omega.{arith}
use lib.Dec.{ltb}
use Rattle.prelude.proofs.Common.{same_test}
use Rattle.gmp.specs.Places.{data_from, outside_stretch}
use Rattle.gmp.specs.Steps.{Stretch, DataIn, data_in}
use Rattle.sizes.specs.Sizes.{places}
use Rattle.gmp.proofs.Allowed.{not_outside_stretch}
use Rattle.gmp.proofs.Floor.{data_split, data_le}

-- there, what is counted is what there is
pub data_inside : (c f n : ℕ) → Stretch c f n → data_in c f n ≡ data_from c f n
unfolding data_in
data_inside c f n s = rw (not_outside_stretch c f n s)

-- the last test without the sum, which could wrap
pub ends_late : (f n : ℕ) → 1 ≤ f + n → n ≤ places → ltb (places - n + 1) f ≡ ltb places (f + n - 1)
ends_late f n h l = same_test (places - n + 1) f places (f + n - 1) (λ k. omega arith) (λ k. omega arith)

-- both products fit a machine number
pub stretch_product : (c f n : ℕ) → Stretch c f n → (f - 1 + n) * c ≤ places * places
stretch_product c f n s = let h : f - 1 + n ≤ places = omega (arith, s.from, s.to) in mul-le-mul h s.count

pub before_product : (c f n : ℕ) → Stretch c f n → (f - 1) * c ≤ places * places
before_product c f n s = let h : f - 1 ≤ places = omega (arith, s.from, s.to) in mul-le-mul h s.count

pub data_outside : (c f n : ℕ) {o : Bool} → o ≡ outside_stretch c f n → o ≡ true → DataIn c f n 0
unfolding data_in
data_outside c f n p q = record { is = rw (← p, q); few = omega arith }

pub data_in_law : (c f n : ℕ) → Stretch c f n → DataIn c f n ((f - 1 + n) * c / places - (f - 1) * c / places)
data_in_law c f n s =
    record {
      is = omega (arith, data_split c f n s.count s.from, data_inside c f n s);
      few = omega (arith, data_split c f n s.count s.from, data_le c f n, s.from, s.to);
    }
