-- Where data group q of a window stands: the place by one division, and what stands there. Assumes nothing.
use Prim.Native.Nat.{ℕ, zero, suc, ◌+◌, ◌-◌, ◌*◌, ◌/◌, ◌≤◌, ◌<◌}
use mathlib.Core.Bool.{true, false}
use mathlib.Core.Path.{◌≡◌, refl, sym, ap, ◌∙◌}
use Rattle.std.specs.Prelude.{Some, None}
use native.Mathlib.Nat.{le-div_iff_mul-le, div-lt_iff_lt-mul, mul-zero}
use native.Mathlib.Numerals.{add-one}
use native.Mathlib.Omega.{arith}
use borrow.Author.Tests.{lt-ltb, le-ltb, ltb-true, ltb-false}
use lib.Dec.{ltb}
use Rattle.prelude.proofs.Common.{by_bound}
use Rattle.prelude.proofs.LoopLaws.{First, first_holds, first_is}
use Rattle.gmp.specs.Places.{is_data, data_from}
use Rattle.gmp_window.specs.Windows.{Window}
use Rattle.gmp_map.specs.Groups.{group_place}
use Rattle.gmp_map.specs.Steps.{GroupAt}
use Rattle.gmp.proofs.Counts.{before_product}
use Rattle.gmp_window.proofs.Allowed.{stretch_of}
use Rattle.gmp_window.proofs.Judging.{data_window}
use Rattle.sizes.specs.Sizes.{places, group_bits}
use Rattle.gmp.specs.Steps.{data_in}
use Rattle.gmp.proofs.Floor.{before, data_split, data_le, data_more, data_grows}

-- ---- a quotient rounded up

module _ (x y c : ℕ) (p : 0 < c) where
  next : suc y * c ≡ y * c + c
  next = omega arith

  ceil_le : x ≤ y * c → (x + (c - 1)) / c ≤ y
  ceil_le h = let m : (x + (c - 1)) / c < suc y = (div-lt_iff_lt-mul p).1 (omega (arith, next)) in omega arith

  le_ceil : (x + (c - 1)) / c ≤ y → x ≤ y * c
  le_ceil h = let m : x + (c - 1) < suc y * c = (div-lt_iff_lt-mul p).0 (omega arith) in omega (arith, next)

  ceil_gt : y * c < x → y < (x + (c - 1)) / c
  ceil_gt h = (le-div_iff_mul-le p).1 (omega (arith, next))

  gt_ceil : y < (x + (c - 1)) / c → y * c < x
  gt_ceil h = omega (arith, next, (le-div_iff_mul-le p).0 h)

-- ---- the place

module _ (c f n q : ℕ) (w : Window c f n) (some : q < data_from c f n) where
  abbrev x : ℕ
  x = ((before c f + q + 1) * places + (c - 1)) / c

  from : 1 ≤ f
  from = omega (arith, w.odd)

  pub count_pos : 0 < c
  count_pos = by_bound 1 c none (λ l. l)
    where
      none : c < 1 → 0 < c
      none l =
          let e : c ≡ 0 = omega arith in
          let z : (f - 1 + n) * c ≡ 0 = rw e (mul-zero (f - 1 + n)) in
          absurd (omega (arith, data_split c f n w.count from))

  -- the data places up to place f + m
  upto_place : (m : ℕ) → before c f + data_from c f (suc m) ≡ (f + m) * c / places
  upto_place m = let e : f - 1 + suc m ≡ f + m = omega (arith, from) in data_split c f (suc m) w.count from ∙ ap (λ (k : ℕ). k * c / places) e

  enough : (m : ℕ) → x ≤ f + m → ltb q (data_from c f (suc m)) ≡ true
  enough m h = lt-ltb q (data_from c f (suc m)) (omega (arith, upto_place m, le_ceil ((before c f + q + 1) * places) (f + m) c count_pos h))

  too_few : (m : ℕ) → f + m < x → ltb q (data_from c f (suc m)) ≡ false
  too_few m h = le-ltb q (data_from c f (suc m)) (omega (arith, upto_place m, gt_ceil ((before c f + q + 1) * places) (f + m) c count_pos h))

  after : f ≤ x
  after = let l : (f - 1) * c < (before c f + q + 1) * places = omega arith in omega (arith, ceil_gt ((before c f + q + 1) * places) (f - 1) c count_pos l)

  within : x - f < n
  within =
      let l : (before c f + q + 1) * places ≤ (f - 1 + n) * c = omega (arith, data_split c f n w.count from) in
      omega (arith, ceil_le ((before c f + q + 1) * places) (f - 1 + n) c count_pos l, from, w.two)

  -- THE PLACE of data group q is the quotient of its number among all data places, rounded up
  pub place_is : group_place c f n q ≡ x - f
  unfolding group_place
  place_is =
      first_is (λ m. ltb q (data_from c f (suc m))) (x - f) n (λ k l. too_few k (omega (arith, after))) within (enough (x - f) (omega (arith, after)))

-- ---- as the code has it

-- a place of the window, or n
place_le : (c f n q : ℕ) → group_place c f n q ≤ n
unfolding group_place
place_le c f n q = (first_holds (λ m. ltb q (data_from c f (suc m))) n).within

few_bits : (c f n q : ℕ) → Window c f n → group_bits * group_place c f n q ≤ group_bits * places
few_bits c f n q w = omega (arith, place_le c f n q, w.odd, w.two, w.to)

pub no_group : (c f n q : ℕ) {d : ℕ} → Window c f n → d ≡ data_in c f n → d ≤ q → GroupAt c f n q None
no_group c f n q w e h = record { is = rw (le-ltb q (data_from c f n) (omega (arith, data_window c f n w))) refl; placed = tt }

pub some_group : (c f n q : ℕ) {d : ℕ} → Window c f n → d ≡ data_in c f n → q < d
    → GroupAt c f n q (Some (group_bits * ((((f - 1) * c / places + q + 1) * places + (c - 1)) / c - f)))
some_group c f n q w e h =
    let m : q < data_from c f n = omega (arith, data_window c f n w) in
    let p = place_is c f n q w m in
    record { is = rw (lt-ltb q (data_from c f n) m, p) refl; placed = rw p at (few_bits c f n q w) }

-- why the code's steps fit
pub record Located (c f q : ℕ) : Type 0 where
  pub product : (f - 1) * c ≤ places * places
  pub positive : 0 < c
  pub behind : f ≤ (((f - 1) * c / places + q + 1) * places + (c - 1)) / c

pub located : (c f n q : ℕ) {d : ℕ} → Window c f n → d ≡ data_in c f n → q < d → Located c f q
located c f n q w e h =
    let m : q < data_from c f n = omega (arith, data_window c f n w) in
    record { product = before_product c f n (stretch_of c f n n w (omega arith)); positive = count_pos c f n q w m; behind = after c f n q w m }

-- ---- what stands there

-- where group q is in the window, its place is data and q data places stand before it
pub record Stands (c f n q m : ℕ) : Type 0 where
  pub inside : m < n
  pub is_data_law : is_data c (f + m) ≡ true
  pub rank : data_from c f m ≡ q

module _ (c f n q : ℕ) (some : q < data_from c f n) where
  abbrev here : ℕ
  here = group_place c f n q

  found : First (λ k. ltb q (data_from c f (suc k))) n here
  unfolding group_place
  found = first_holds (λ k. ltb q (data_from c f (suc k))) n

  -- up to a place that was passed there are no more than q
  few : (k : ℕ) → k ≤ here → data_from c f k ≤ q
  few zero l = omega (arith, data_le c f 0)
  few (suc k) l = ltb-false q (data_from c f (suc k)) (found.none k l)

  in_window : here < n
  in_window = by_bound n here (λ l. l) (λ l. absurd (omega (arith, few n l)))

  pub stands : Stands c f n q here
  stands =
      let low = few here (omega arith) in
      let more = ltb-true q (data_from c f (suc here)) (found.here in_window) in
      let e : is_data c (f + here) ≡ true = sym (data_grows c f here) ∙ rw add-one (lt-ltb (data_from c f here) (data_from c f (suc here)) (omega arith)) in
      record { inside = in_window; is_data_law = e; rank = omega (arith, rw e at (data_more c f here)) }
