-- "The first j places hold floor(j·C / P) data places", and what that says of the places from f on. Assumes nothing.
use Prim.Native.Nat.{ℕ, zero, suc, ◌+◌, ◌-◌, ◌*◌, ◌/◌, ◌%◌, ◌≤◌}
use mathlib.Core.Bool.{Bool, true, false, cond}
use mathlib.Core.Path.{◌≡◌, refl, ap}
use native.Mathlib.Nat.{zero-mul}
use native.Mathlib.Omega.{arith}
use borrow.Author.Tests.{lt-ltb, le-ltb, ltb-true, ltb-false}
use lib.Dec.{ltb}
use Rattle.prelude.specs.Loops.{count}
use Rattle.prelude.proofs.Counting.{count_ext, count_add, count_le}
use Rattle.sizes.specs.Sizes.{places}
use Rattle.gmp.specs.Places.{is_data, data_from}

-- one place more: the residue comes round exactly where it is data
floor_more : (x y c : ℕ) (b : Bool) → ltb (y % places) c ≡ b → y ≡ x + c → c ≤ places → cond b (suc (x / places)) (x / places) ≡ y / places
floor_more x y c true e p h = omega (arith, ltb-true (y % places) c e)
floor_more x y c false e p h = omega (arith, ltb-false (y % places) c e)

-- THE FLOOR: of the first j places, floor (j c / P) are data
pub floor : (c j : ℕ) → c ≤ places → data_from c 1 j ≡ j * c / places
unfolding data_from count is_data
floor c zero h = rw zero-mul
floor c (suc j) h =
    let e : 1 + j ≡ suc j = omega arith in
    let y : suc j * c ≡ j * c + c = omega arith in
    rw (floor c j h, e) (floor_more (j * c) (suc j * c) c (ltb (suc j * c % places) c) refl y h)

-- the data places among those before place f
abbrev pub before : ℕ → ℕ → ℕ
before c f = (f - 1) * c / places

-- those before place f, and those of the n places from f on
pub data_split : (c f n : ℕ) → c ≤ places → 1 ≤ f → before c f + data_from c f n ≡ (f - 1 + n) * c / places
unfolding data_from
data_split c f n h l =
    let all = count_add (λ k. is_data c (1 + k)) (f - 1) n in
    let same = count_ext (λ k. is_data c (1 + (f - 1 + k))) (λ k. is_data c (f + k)) n (λ k m. ap (is_data c) (shift k)) in
    omega (arith, all, same, floor c (f - 1 + n) h, floor c (f - 1) h)
  where
    shift : (k : ℕ) → 1 + (f - 1 + k) ≡ f + k
    shift k = omega arith

-- no more than there are places
pub data_le : (c f n : ℕ) → data_from c f n ≤ n
unfolding data_from
data_le c f n = count_le (λ k. is_data c (f + k)) n

-- one place more
pub data_more : (c f n : ℕ) → data_from c f (suc n) ≡ cond (is_data c (f + n)) (suc (data_from c f n)) (data_from c f n)
unfolding data_from count
data_more c f n = refl

-- a place is data where the count grows
grows : (b : Bool) (n : ℕ) → ltb n (cond b (suc n) n) ≡ b
grows true n = lt-ltb n (suc n) (omega arith)
grows false n = le-ltb n n (omega arith)

pub data_grows : (c f n : ℕ) → ltb (data_from c f n) (data_from c f (n + 1)) ≡ is_data c (f + n)
data_grows c f n =
    let e : n + 1 ≡ suc n = omega arith in
    rw (e, data_more c f n) (grows (is_data c (f + n)) (data_from c f n))

-- the more places, the more data places
pub data_mono : (c f m n : ℕ) → m ≤ n → data_from c f m ≤ data_from c f n
unfolding data_from
data_mono c f m n h =
    let e : m + (n - m) ≡ n = omega arith in
    omega (arith, ap (count (λ k. is_data c (f + k))) e, count_add (λ k. is_data c (f + k)) m (n - m))
