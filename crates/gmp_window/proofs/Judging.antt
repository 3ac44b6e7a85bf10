-- What a window's numbers say of its data places, and what a call of `map` or `unmap` that is done was asked. Assumes nothing.
use Prim.Native.Nat.{ℕ, ◌≤◌}
use mathlib.Core.Bool.{Bool, false}
use mathlib.Core.Path.{◌≡◌, refl, ◌∙◌}
use mathlib.Core.List.{List}
use native.Mathlib.Omega.{arith}
use lib.ListN.{length}
use Rattle.answer.specs.Numbers.{all_done, outside_set}
use Rattle.answer.specs.Rows.{done, rising, row_number}
use Rattle.answer.specs.Steps.{in_turn, NoFault, RowPassed, Passed}
use Rattle.answer.specs.declared.Answer.{Answer}
use Rattle.answer.proofs.Turns.{by_turns, turn_passed, granted_passed, right_length}
use Rattle.gmp.specs.Places.{data_from}
use Rattle.gmp.proofs.Counts.{data_inside}
use Rattle.sizes.specs.Sizes.{places, group_bytes, window_bytes}
use Rattle.gmp_window.specs.Windows.{outside_window, Window, groups_spare_set}
use Rattle.gmp_window.specs.Answers.{map_rows, map_answer, unmap_rows, unmap_answer}
use Rattle.gmp_window.specs.Steps.{map_late, unmap_late}
use Rattle.gmp.specs.Steps.{data_in}
use Rattle.gmp_window.proofs.Allowed.{stretch_of, window_in}

-- the data places of a window, as they are counted
pub data_window : (c f n : ℕ) → Window c f n → data_in c f n ≡ data_from c f n
data_window c f n w = data_inside c f n (stretch_of c f n n w (omega arith))

pub few_places : (c f n : ℕ) {o : Bool} → o ≡ outside_window c f n → o ≡ false → n ≤ places
few_places c f n p q = let w = window_in c f n p q in omega arith

-- ---- number 1 is passed, and the tests of the others go on in turn

module _ (c f n : ℕ) {o : Bool} (p : o ≡ outside_window c f n) (q : o ≡ false) {d : ℕ} (e : d ≡ data_in c f n) where
  counted : d ≡ data_from c f n
  counted = e ∙ data_window c f n (window_in c f n p q)

  pub map_late_law : (g : List ℕ) (l : ℕ) {a : Answer} → a ≡ in_turn (map_late n d g l) (done d) → a ≡ map_answer c f n g l
  unfolding map_answer
  map_late_law g l h = turn_passed outside_set _ _ _ p q (by_turns _ _ (rw (← counted) h))

  pub unmap_late_law : (l k : ℕ) {a : Answer} → a ≡ in_turn (unmap_late n d l k) (done d) → a ≡ unmap_answer c f n l k
  unfolding unmap_answer
  unmap_late_law l k h = turn_passed outside_set _ _ _ p q (by_turns _ _ (rw (← counted) h))

-- ---- what a call that is done was asked

pub record MapTaken (c f n : ℕ) (g : List ℕ) (l : ℕ) : Type 0 where
  pub numbers : outside_window c f n ≡ false
  pub groups_length : length g ≡ group_bytes (data_from c f n)
  pub window_length : l ≡ window_bytes n
  pub spare : groups_spare_set (data_from c f n) g ≡ false
  pub window : Window c f n

pub map_taken : (c f n : ℕ) (g : List ℕ) (l : ℕ) {a : Answer} → a ≡ map_answer c f n g l → a.number ≡ all_done → MapTaken c f n g l
unfolding map_answer rising row_number Passed RowPassed NoFault
map_taken c f n g l e z =
    let p = granted_passed (map_rows c f n g l) (data_from c f n) refl e z in
    let lengths = p.1.0 in
    record {
      numbers = p.0;
      groups_length = right_length lengths.0;
      window_length = right_length lengths.1.0;
      spare = p.1.1.0.0;
      window = window_in c f n refl p.0;
    }

pub record UnmapTaken (c f n k : ℕ) : Type 0 where
  pub groups_length : k ≡ group_bytes (data_from c f n)
  pub window : Window c f n

pub unmap_taken : (c f n l k : ℕ) {a : Answer} → a ≡ unmap_answer c f n l k → a.number ≡ all_done → UnmapTaken c f n k
unfolding unmap_answer rising row_number Passed RowPassed NoFault
unmap_taken c f n l k e z =
    let p = granted_passed (unmap_rows c f n l k) (data_from c f n) refl e z in
    record { groups_length = right_length p.1.0.1.0; window = window_in c f n refl p.0 }
