-- A stretch of pieces of 1028 bits, filled two pieces at a time: the places of a window, and the data groups of a window. Assumes nothing.
use Prim.Native.Nat.{ℕ, ◌+◌, ◌-◌, ◌*◌, ◌/◌, ◌%◌, ◌≤◌, ◌<◌}
use mathlib.Core.Bool.{Bool, true, false, cond}
use mathlib.Core.Path.{◌≡◌, refl, ◌∙◌}
use mathlib.Core.List.{List}
use native.Mathlib.Omega.{arith}
use borrow.Author.Tests.{ltb-true, ltb-false}
use lib.Dec.{ltb}
use Rattle.std.specs.Prelude.{Option}
use Rattle.std.specs.Bool.{then_some}
use Rattle.prelude.specs.Lists.{tabulate}
use Rattle.bits.specs.Bits.{byte_of, pack}
use Rattle.gmp.specs.Places.{is_data, data_from}
use Rattle.gmp_window.specs.Windows.{Window}
use Rattle.gmp_map.specs.Groups.{window_bit, group_place, groups_bit}
use Rattle.gmp_map.specs.Steps.{GroupAt, piece, pair_bit}
use Rattle.gmp.proofs.Floor.{data_grows}
use Rattle.gmp.proofs.Counts.{data_inside}
use Rattle.gmp_window.proofs.Allowed.{stretch_of}
use Rattle.sizes.specs.Sizes.{group_bits, pair_bytes}
use Rattle.gmp.specs.Steps.{data_in}
use Rattle.gmp_map.proofs.Pairs.{piece_if, pack_part}

-- bit i of a stretch of pieces of s: piece m is `at m`
abbrev pieces : List ℕ → (ℕ → Option ℕ) → ℕ → ℕ
pieces s at i = piece s (at (i / group_bits)) (i % group_bits)

-- pieces 2 p and 2 p + 1 of it are a pair
module _ (s : List ℕ) (at : ℕ → Option ℕ) (p : ℕ) where
  abbrev both : ℕ → ℕ
  both = pair_bit s (at (2 * p)) (at (2 * p + 1))

  both_bits : (i : ℕ) → i < 8 * pair_bytes → both i ≡ pieces s at (8 * (pair_bytes * p) + i)
  unfolding pair_bit
  both_bits i h = by (ltb i group_bits) refl
    where
      by : (t : Bool) → ltb i group_bits ≡ t
          → cond t (piece s (at (2 * p)) i) (piece s (at (2 * p + 1)) (i - group_bits)) ≡ pieces s at (8 * (pair_bytes * p) + i)
      by true e =
          let l : i < group_bits = ltb-true i group_bits e in
          let q : (8 * (pair_bytes * p) + i) / group_bits ≡ 2 * p = omega arith in
          let r : (8 * (pair_bytes * p) + i) % group_bits ≡ i = omega arith in
          rw (q, r)
      by false e =
          let l : group_bits ≤ i = ltb-false i group_bits e in
          let q : (8 * (pair_bytes * p) + i) / group_bits ≡ 2 * p + 1 = omega arith in
          let r : (8 * (pair_bytes * p) + i) % group_bits ≡ i - group_bits = omega arith in
          rw (q, r)

  -- m bytes of the pair are those from byte 257 p on of B, where that has the pieces' bits
  part : (m : ℕ) → m ≤ pair_bytes → (B : ℕ → ℕ) → ((i : ℕ) → pieces s at i ≡ B i) → {u v : Option ℕ} → u ≡ at (2 * p) → v ≡ at (2 * p + 1)
      → pack m (pair_bit s u v) ≡ tabulate m (λ k. byte_of B (pair_bytes * p + k))
  part m h B same eu ev = rw (eu, ev) (pack_part m (pair_bytes * p) both B (λ i l. both_bits i (omega arith) ∙ same (8 * (pair_bytes * p) + i)))

-- what `fill_places` leaves, from what it asked
pub window_pair : (c f n : ℕ) (g : List ℕ) (p : ℕ) {x y z l : ℕ} {u v : Option ℕ} {out : List ℕ} → Window c f n → p < n / 2
    → x ≡ data_in c f (2 * p) → y ≡ data_in c f (2 * p + 1) → z ≡ data_in c f (2 * p + 2) → l ≡ pair_bytes
    → u ≡ then_some (ltb x y) (group_bits * x) → v ≡ then_some (ltb y z) (group_bits * y) → out ≡ pack l (pair_bit g u v)
    → out ≡ tabulate pair_bytes (λ k. byte_of (window_bit c f g) (pair_bytes * p + k))
unfolding window_bit
window_pair c f n g p {x} {y} {z} {u = u} {v = v} w h ex ey ez el eu ev e =
    let is : (m : ℕ) → m ≤ n → data_in c f m ≡ data_from c f m = λ m l. data_inside c f m (stretch_of c f n m w l) in
    let fx = ex ∙ is (2 * p) (omega arith) in
    let fy = ey ∙ is (2 * p + 1) (omega arith) in
    let fz = ez ∙ is (2 * p + 2) (omega arith) in
    let next : 2 * p + 1 + 1 ≡ 2 * p + 2 = omega arith in
    let at : ℕ → Option ℕ = λ m. then_some (is_data c (f + m)) (group_bits * data_from c f m) in
    let first : u ≡ at (2 * p) = eu ∙ rw (fx, fy, data_grows c f (2 * p)) refl in
    let second : v ≡ at (2 * p + 1) = ev ∙ rw (fy, fz, ← next, data_grows c f (2 * p + 1)) refl in
    e ∙ rw el (part g at p pair_bytes (omega arith) (window_bit c f g)
    (λ i. piece_if g (is_data c (f + i / group_bits)) (group_bits * data_from c f (i / group_bits)) (i % group_bits)) first second)

-- what `fill_two` leaves, from what it asked
pub groups_pair : (c f n : ℕ) (w : List ℕ) (p l : ℕ) {a b : Option ℕ} {out : List ℕ} → GroupAt c f n (2 * p) a → GroupAt c f n (2 * p + 1) b
    → l ≤ pair_bytes → out ≡ pack l (pair_bit w a b) → out ≡ tabulate l (λ k. byte_of (groups_bit c f n w) (pair_bytes * p + k))
unfolding groups_bit
groups_pair c f n w p l ga gb h e =
    let at : ℕ → Option ℕ = λ q. then_some (ltb q (data_from c f n)) (group_bits * group_place c f n q) in
    e ∙ part w at p l h (groups_bit c f n w)
    (λ i. piece_if w (ltb (i / group_bits) (data_from c f n)) (group_bits * group_place c f n (i / group_bits)) (i % group_bits)) ga.is gb.is
