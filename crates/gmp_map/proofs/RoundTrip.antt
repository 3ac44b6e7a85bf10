-- Unmapping what was mapped gives the groups back: the law of specs/RoundTrip.antt. Assumes nothing.
use Prim.Native.Nat.{ℕ, ◌+◌, ◌-◌, ◌*◌, ◌/◌, ◌%◌, ◌^◌, ◌≤◌, ◌<◌}
use mathlib.Core.Bool.{Bool, true, false, cond, not}
use mathlib.Core.Path.{◌≡◌, refl, sym, ap, ◌∙◌}
use mathlib.Core.List.{List}
use native.Mathlib.Nat.{zero-div}
use native.Mathlib.Decide.{ℕ_discrete}
use native.Mathlib.Omega.{arith}
use borrow.Author.Tests.{ltb-true, ltb-false, eq-eqb, eqb-true, not-false}
use lib.Dec.{ltb, eqb}
use lib.ListN.{length}
use Rattle.std.specs.Bool.{then_some}
use Rattle.bits.specs.Bits.{num, digit, bit_at, pack, Bits, Bytes}
use Rattle.bits.proofs.Numbers.{digit-num}
use Rattle.bits.proofs.Packing.{bit_of_lt, bit_of-packs, packs-bit_of, packs_ext, length-packs}
use Rattle.answer.specs.Numbers.{all_done}
use Rattle.answer.specs.Outcomes.{Outcome, written}
use Rattle.answer.specs.Steps.{in_turn, row_then, faults_then}
use Rattle.answer.specs.declared.Answer.{Answer}
use Rattle.answer.proofs.Turns.{in_turn_law, length_right}
use Rattle.answer.proofs.Meets.{written_done, written_refused, stops_there, goes_further}
use Rattle.gmp.specs.Places.{is_data, data_from}
use Rattle.gmp_window.specs.Windows.{Window, groups_spare_set}
use Rattle.gmp_map.specs.Groups.{window_bit, group_place, groups_bit}
use Rattle.gmp_map.specs.RoundTrip.{back_answer, map_unmap_answer, map_unmap_leaves}
use Rattle.gmp_window.specs.Answers.{map_answer, unmap_rows, unmap_answer}
use Rattle.gmp_map.proofs.Pairs.{piece_lt, piece_if}
use Rattle.gmp_map.proofs.Ranks.{Stands, stands}
use Rattle.sizes.specs.Sizes.{group_bits, pair_bytes, group_bytes, window_bytes}
use Rattle.gmp_map.specs.Steps.{MapUnmap, refused_first, went_on}
use Rattle.gmp_window.proofs.Judging.{MapTaken, map_taken}

window_lt : (c f : ℕ) (g : List ℕ) → Bits (window_bit c f g)
unfolding window_bit
window_lt c f g i =
    let a = group_bits * data_from c f (i / group_bits) in
    let b = is_data c (f + i / group_bits) in
    rw (piece_if g b a (i % group_bits)) at (piece_lt g (then_some b a) (i % group_bits))

-- bit r of data group q, at its place in the window
at_place_law : (c f n : ℕ) (g : List ℕ) (q r m : ℕ) → r < group_bits → Stands c f n q m → window_bit c f g (group_bits * m + r) ≡ bit_at g (group_bits * q + r)
unfolding window_bit
at_place_law c f n g q r m h s =
    let d : (group_bits * m + r) / group_bits ≡ m = omega arith in
    let e : (group_bits * m + r) % group_bits ≡ r = omega arith in
    rw (d, e, s.is_data_law, s.rank)

digit-zero : (w j : ℕ) → digit w 0 j ≡ 0
unfolding digit
digit-zero w j = rw (zero-div (2 ^ (w - 1 - j)))

-- a spare bit that is not set is zero
spare_zero : (d : ℕ) (g : List ℕ) (j : ℕ) → groups_spare_set d g ≡ false → d % 2 ≡ 1 → j < 4 → bit_at g (group_bits * d + j) ≡ 0
unfolding groups_spare_set
spare_zero d g j s o h =
    let x = num 4 (bit_at g) (group_bits * d) in
    let t : not (eqb x 0) ≡ false = rw (eq-eqb (d % 2) 1 o) at s in
    let z : x ≡ 0 = eqb-true x 0 (not-false (eqb x 0) t) in
    sym (digit-num 4 (bit_at g) (group_bits * d) j (bit_of_lt 8 g) h) ∙ ap (λ (y : ℕ). digit 4 y j) z ∙ digit-zero 4 j

-- an even number of places fills its bytes; an odd number of groups leaves four bits
half : (x q r : ℕ) → x ≡ 2 * q + r → r < 2 → x / 2 ≡ q
half x q r e h = omega arith

window_bytes_law : (n : ℕ) → n % 2 ≡ 0 → 8 * window_bytes n ≡ group_bits * n
window_bytes_law n h = omega (arith, half (pair_bytes * n) (pair_bytes * (n / 2)) 0 (omega arith) (omega arith))

odd_bytes : (d : ℕ) → d % 2 ≡ 1 → 8 * group_bytes d ≡ group_bits * d + 4
odd_bytes d h = omega (arith, half (pair_bytes * d + 1) (pair_bytes * (d / 2) + 129) 0 (omega arith) (omega arith))

from_quotient : (d i : ℕ) → d ≤ i / group_bits → group_bits * d ≤ i
from_quotient d i h = omega arith

-- a bit behind the last group and within the bytes: there is an odd number of groups
odd_behind : (d i : ℕ) → group_bits * d ≤ i → i < 8 * group_bytes d → d % 2 ≡ 1
odd_behind d i l h = by (ℕ_discrete (d % 2) 1)
  where
    by : Dec (d % 2 ≡ 1) → d % 2 ≡ 1
    by (yes e) = e
    by (no n) = absurd (omega (arith, half (pair_bytes * d + 1) (pair_bytes * (d / 2)) 1 (omega arith) (omega arith)))

-- bit by bit, what was mapped is what unmapping finds
module _ (c f n : ℕ) (g : List ℕ) (w : Window c f n) (spare : groups_spare_set (data_from c f n) g ≡ false) where
  abbrev out : List ℕ
  out = pack (window_bytes n) (window_bit c f g)

  back_bit : (i : ℕ) → i < 8 * group_bytes (data_from c f n) → groups_bit c f n out i ≡ bit_at g i
  unfolding groups_bit
  back_bit i h = by (ltb (i / group_bits) (data_from c f n)) refl
    where
      by : (b : Bool) → ltb (i / group_bits) (data_from c f n) ≡ b
          → cond b (bit_at out (group_bits * group_place c f n (i / group_bits) + i % group_bits)) 0 ≡ bit_at g i
      by true e =
          let q = i / group_bits in
          let r = i % group_bits in
          let s = stands c f n q (ltb-true q (data_from c f n) e) in
          let m = group_place c f n q in
          let l : group_bits * m + r < 8 * window_bytes n = omega (arith, s.inside, window_bytes_law n w.even) in
          let k : group_bits * q + r ≡ i = omega arith in
          bit_of-packs 8 (window_bytes n) (window_bit c f g) (group_bits * m + r) (window_lt c f g) l ∙ at_place_law c f n g q r m (omega arith) s ∙ ap (bit_at g) k
      by false e =
          let d = data_from c f n in
          let l : group_bits * d ≤ i = from_quotient d i (ltb-false (i / group_bits) d e) in
          let o : d % 2 ≡ 1 = odd_behind d i l h in
          let k : group_bits * d + (i - group_bits * d) ≡ i = omega arith in
          sym (ap (bit_at g) (sym k) ∙ spare_zero d g (i - group_bits * d) spare o (omega (arith, odd_bytes d o)))

  back_bytes : Bytes g → length g ≡ group_bytes (data_from c f n) → pack (group_bytes (data_from c f n)) (groups_bit c f n out) ≡ g
  back_bytes b l =
      packs_ext 8 (group_bytes (data_from c f n)) (groups_bit c f n out) (bit_at g) back_bit ∙ ap (λ (k : ℕ). pack k (bit_at g)) (sym l) ∙ packs-bit_of 8 g b

-- what unmapping answers to a window that was mapped
back_answer_law : (c f n : ℕ) (g b out : List ℕ) {l : ℕ} → MapTaken c f n g l → length out ≡ window_bytes n
    → unmap_answer c f n (length out) (length b) ≡ back_answer c f n g b
unfolding unmap_answer back_answer in_turn row_then faults_then
back_answer_law c f n g b out t long =
    rw (in_turn_law (unmap_rows c f n (length out) (length b)) (data_from c f n), t.numbers, length_right long, t.groups_length)

-- THE ROUND TRIP: two calls that meet the contracts of mapping and unmapping answer and leave what `RoundTrip` says, whatever they were asked
module _ (c f n : ℕ) (g w b : List ℕ) (bytes : Bytes g) where
  abbrev mapping : Answer
  mapping = map_answer c f n g (length w)

  abbrev mapped : List ℕ
  mapped = pack (window_bytes n) (window_bit c f g)

  pub round_trip : {r : Answer} {left : List ℕ × List ℕ} → MapUnmap c f n g w b r left
      → Outcome (map_unmap_answer c f n g w b) (map_unmap_leaves c f n g w b) r left
  unfolding map_unmap_answer map_unmap_leaves
  round_trip (refused_first m h) =
      let not_done : mapping.number ≡ all_done → ⊥ = λ z. h (ap (λ (x : Answer). x.number) m.told ∙ z) in
      stops_there (back_answer c f n g b) (mapped, written (back_answer c f n g b) g b) m.told h
      (ap (λ (x : List ℕ). (x, b)) (m.kept ∙ written_refused mapping mapped w not_done))
  round_trip (went_on {m} {r} {out} {back} p z u) =
      let t = map_taken c f n g (length w) p.told z in
      let made : out ≡ mapped = p.kept ∙ written_done mapping mapped w (ap (λ (x : Answer). x.number) (sym p.told) ∙ z) in
      let says = back_answer_law c f n g b out t (ap length made ∙ length-packs 8 (window_bytes n) (window_bit c f g)) in
      let same = back_bytes c f n g t.window t.spare bytes t.groups_length in
      goes_further (w, b) p.told z (record { told = u.told ∙ says; kept = rw (u.kept, says, made, same) })
