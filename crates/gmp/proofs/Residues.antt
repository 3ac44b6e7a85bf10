-- How the residue j c mod P goes on from place to place, and what it says of the kind. Assumes nothing.
use Prim.Native.Nat.{ℕ, ◌+◌, ◌-◌, ◌*◌, ◌%◌, ◌≤◌, ◌<◌}
use mathlib.Core.Bool.{true, false}
use mathlib.Core.Path.{◌≡◌, sym, ap, ◌∙◌}
use native.Mathlib.Nat.{add-mul, mul-add, mul-le-mul}
use native.Mathlib.Omega.{arith}
use borrow.Author.Tests.{lt-ltb, le-ltb, ltb-true, ltb-false}
use Rattle.sizes.specs.Sizes.{places}
use Rattle.gmp.specs.Places.{is_data}
use Rattle.gmp.specs.Steps.{Place}

-- ---- the kind, from the residue and back

pub data_of : (c j : ℕ) → j * c % places < c → is_data c j ≡ true
unfolding is_data
data_of c j h = lt-ltb (j * c % places) c h

pub stuff_of : (c j : ℕ) → c ≤ j * c % places → is_data c j ≡ false
unfolding is_data
stuff_of c j h = le-ltb (j * c % places) c h

pub data_residue : (c j : ℕ) → is_data c j ≡ true → j * c % places < c
unfolding is_data
data_residue c j e = ltb-true (j * c % places) c e

pub stuff_residue : (c j : ℕ) → is_data c j ≡ false → c ≤ j * c % places
unfolding is_data
stuff_residue c j e = ltb-false (j * c % places) c e

-- ---- k places on: the residue grows by k c while there is room, and else falls by k (P - c)

room_up : (x y : ℕ) → x % places + y < places → (x + y) % places ≡ x % places + y
room_up x y h = omega arith

pub residue_up : (c j k : ℕ) → j * c % places + k * c < places → (j + k) * c % places ≡ j * c % places + k * c
residue_up c j k h = ap (λ (x : ℕ). x % places) (add-mul j k c) ∙ room_up (j * c) (k * c) h

-- k (P - c) and k c are k P together
pub split : (c k : ℕ) → c ≤ places → k * (places - c) + k * c ≡ k * places
split c k h = let e : places - c + c ≡ places = omega arith in sym (mul-add k (places - c) c) ∙ ap (λ (x : ℕ). k * x) e

room_down : (x y z k : ℕ) → z + y ≡ k * places → z ≤ x % places → (x + y) % places ≡ x % places - z
room_down x y z k e h = omega arith

pub residue_down : (c j k : ℕ) → c ≤ places → k * (places - c) ≤ j * c % places → (j + k) * c % places ≡ j * c % places - k * (places - c)
residue_down c j k h l =
    ap (λ (x : ℕ). x % places) (add-mul j k c) ∙ room_down (j * c) (k * c) (k * (places - c)) k (split c k h) l

-- the last place of all is data, but for the count 0
pub last_residue : (c : ℕ) → places * c % places ≡ 0
last_residue c = omega arith

-- a product that a machine number holds
pub residue_product : (c j : ℕ) → Place c j → j * c ≤ places * places
residue_product c j p = mul-le-mul p.to p.count
