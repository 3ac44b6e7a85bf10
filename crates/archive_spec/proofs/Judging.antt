-- The tables of writing and reading: their answers are exact, and the code comes to them by tests in turn. Assumes nothing.
use Prim.Native.Nat.{ℕ, suc, ◌+◌, ◌≤◌, ◌<◌, min}
use mathlib.Core.Bool.{Bool, true, false, cond, ◌||◌}
use mathlib.Core.Path.{◌≡◌, refl, sym, ap, ◌∙◌}
use mathlib.Core.List.{List, [], ◌∷◌}
use native.Mathlib.Nat.{add-zero}
use native.Mathlib.Numerals.{add-one}
use native.Mathlib.Omega.{arith}
use borrow.Author.Tests.{lt-ltb, le-ltb, ltb-false, eq-eqb, ne_eqb}
use lib.Dec.{ltb}
use lib.ListN.{length, get_or}
use Rattle.prelude.specs.Lists.{tabulate}
use Rattle.prelude.specs.Loops.{first}
use Rattle.prelude.proofs.Common.{same_test, or_left, or_right, or_next}
use Rattle.prelude.proofs.Lists.{tabulate_ext}
use Rattle.prelude.proofs.LoopLaws.{PassedOver, first_here, first_end, first_holds}
use Rattle.answer.specs.Numbers.{all_done, outside_set, wrong_length, not_archive, bad_entry, misplaced}
use Rattle.answer.specs.Rows.{Row, each, done, refused, wrong, buffer_place, FirstFault, row_number, places_of, holds_at, first_of, answer_of, rising}
use Rattle.std.specs.Prelude.{Option, Some, None, Result}
use Rattle.answer.specs.Refusals.{refused_at, tested, found_at}
use Rattle.answer.specs.declared.refusal.Refusal.{Refusal}
use Rattle.answer.specs.declared.refusal.Refused.{Refused}
use Rattle.answer.specs.Demand1.{Exactly, Demand1}
use Rattle.answer.specs.Outcomes.{Outcome}
use Rattle.answer.specs.Steps.{in_turn, row_then, faults_then, NoFault, RowPassed, Passed}
use Rattle.answer.specs.declared.Answer.{Answer}
use Rattle.answer.proofs.Table.{exactly, granted, demand_1}
use Rattle.answer.proofs.Buffers.{which_buffer}
use Rattle.answer.proofs.Turns.{in_turn_law, by_turns, passed, granted_passed, early_refused, early_passed, turn_refused, turn_passed, right_length}
use Rattle.answer.proofs.Meets.{meets_done}
use Rattle.archive_spec.specs.File.{fixed_bytes, fixed, head_bytes, most_entries, most_head_bytes, number_at, head_of, count_in, kind_in, count_outside}
use Rattle.archive_spec.specs.Write.{nth, any_below, entry_outside, handed_in, write_outside, write_rows, write_answer, write_leaves}
use Rattle.archive_spec.specs.Read.{fixed_differs, is_no_archive, at_place, bad_count, bad_kind, off_rule, open_early_rows, open_late_rows, open_rows, open_answer, table_in}
use Rattle.archive_spec.specs.Read.{open_leaves}
use Rattle.archive_spec.specs.Steps.{field_in, bad_count_of, place_found, entries_answer, Head, Room, Listed}

-- ---- DEMAND 1 of both

pub write_exactly : (n : ℕ) (kinds lengths : List ℕ) (head : ℕ) → Exactly (write_rows n kinds lengths head) (head_bytes n) (write_answer n kinds lengths head)
unfolding write_answer rising row_number
write_exactly n kinds lengths head = exactly (write_rows n kinds lengths head) (head_bytes n) refl

pub write_demand_1 : (n : ℕ) (kinds lengths head : List ℕ) {r : Answer} {left : List ℕ}
    → Outcome (write_answer n kinds lengths (length head)) (write_leaves n kinds lengths head) r left
    → Demand1 (write_rows n kinds lengths (length head)) (head_bytes n) (head_of n (nth kinds) (nth lengths)) head r left
unfolding write_answer write_leaves rising row_number
write_demand_1 n kinds lengths head o = demand_1 (write_rows n kinds lengths (length head)) (head_bytes n) (head_of n (nth kinds) (nth lengths)) head refl o

pub open_exactly : (size : ℕ) (s : List ℕ) (k o l : ℕ) → Exactly (open_rows size s k o l) (count_in s) (open_answer size s k o l)
unfolding open_answer open_early_rows open_late_rows rising row_number
open_exactly size s k o l = exactly (open_rows size s k o l) (count_in s) refl

pub open_demand_1 : (size : ℕ) (s kinds offsets lengths : List ℕ) {r : Answer} {left : List ℕ × (List ℕ × List ℕ)}
    → Outcome (open_answer size s (length kinds) (length offsets) (length lengths)) (open_leaves size s kinds offsets lengths) r left
    → Demand1 (open_rows size s (length kinds) (length offsets) (length lengths)) (count_in s) (table_in s kinds offsets lengths) (kinds, (offsets, lengths)) r left
unfolding open_answer open_leaves open_early_rows open_late_rows rising row_number
open_demand_1 size s kinds offsets lengths o =
    demand_1 (open_rows size s (length kinds) (length offsets) (length lengths)) (count_in s) (table_in s kinds offsets lengths) (kinds, (offsets, lengths)) refl o

-- ---- number 2 names the first buffer whose length is wrong: of writing kinds, lengths and head, of reading the first bytes and the three lists

pub write_names : (n : ℕ) (kinds lengths : List ℕ) (head : ℕ) → (write_answer n kinds lengths head).number ≡ wrong_length
    → FirstFault 1 (wrong n (length kinds) ∷ wrong n (length lengths) ∷ wrong (head_bytes n) head ∷ []) (write_answer n kinds lengths head).place
unfolding rising row_number
write_names n kinds lengths head = which_buffer (_ ∷ []) wrong_length _ [] (head_bytes n) refl (write_exactly n kinds lengths head)

pub open_names : (size : ℕ) (s : List ℕ) (k o l : ℕ) → (open_answer size s k o l).number ≡ wrong_length
    → FirstFault 1 (wrong (min size most_head_bytes) (length s) ∷ wrong most_entries k ∷ wrong most_entries o ∷ wrong most_entries l ∷ [])
    (open_answer size s k o l).place
unfolding open_early_rows open_late_rows rising row_number
open_names size s k o l = which_buffer [] wrong_length _ (open_late_rows size s) (count_in s) refl (open_exactly size s k o l)

-- ---- what tests that were passed say

pub record Counted (n : ℕ) : Type 0 where
  pub some : 1 ≤ n
  pub few : n ≤ most_entries

pub counted : (n : ℕ) → count_outside n ≡ false → Counted n
counted n e =
    record { some = ltb-false n 1 (or_left (ltb n 1) (ltb most_entries n) e); few = ltb-false most_entries n (or_right (ltb n 1) (ltb most_entries n) e) }

pub none_below : (p : ℕ → Bool) (n : ℕ) → any_below p n ≡ false → (e : ℕ) → e < n → p e ≡ false
none_below p n h e l = (first_holds p n).none e (omega (arith, ltb-false (first p n) n h))

pub counted_by : (n : ℕ) {o : Bool} → o ≡ count_outside n → o ≡ false → Counted n
counted_by n p q = counted n (sym p ∙ q)

pub count_known : (size n : ℕ) {o : Bool} → o ≡ bad_count_of size n → o ≡ false → Counted n
count_known size n p q = counted n (or_right (ltb size (head_bytes 0)) (count_outside n) (sym p ∙ q))

-- what was found stands no further than the end
pub few_found : (p : ℕ → Bool) (n : ℕ) {x : ℕ} → x ≡ first p n → x ≤ n
few_found p n e = rw e (first_holds p n).within

-- a search for a place: where it ends, and what it refuses
module _ (p : ℕ → Bool) (n : ℕ) where
  pub place_here : {e : ℕ} → e ≡ first p n → e < n → Some (e + 1) ≡ place_found p n
  unfolding place_found
  place_here {e} h l = rw (← h, lt-ltb e n l)

  pub place_none : {e : ℕ} → e ≡ first p n → n ≤ e → None ≡ place_found p n
  unfolding place_found
  place_none {e} h l = rw (← h, le-ltb e n l)

  pub place_refused : (r : Refusal) {o : Option ℕ} {x : Result (Unit {0}) Refused} → o ≡ place_found p n → x ≡ found_at r o
      → x ≡ tested (ltb (first p n) n) (refused_at r (first p n + 1))
  unfolding place_found
  place_refused r i e = e ∙ ap (found_at r) i ∙ by_test (ltb (first p n) n)
    where
      by_test : (b : Bool) → found_at r (cond b (Some (first p n + 1)) None) ≡ tested b (refused_at r (first p n + 1))
      by_test true = refl
      by_test false = refl

-- ---- writing

pub outside_by : (n : ℕ) (kinds lengths : List ℕ) {o : Bool} {l m f : ℕ} → o ≡ count_outside n → o ≡ false → l ≡ min (length kinds) (length lengths)
    → m ≡ min n l → f ≡ first (entry_outside n (nth kinds) (nth lengths)) m → ltb f m ≡ write_outside n kinds lengths
unfolding write_outside
outside_by n kinds lengths p q i j k = or_next p q (rw (k, j, i))

module _ (n : ℕ) (kinds lengths : List ℕ) {o : Bool} (p : o ≡ write_outside n kinds lengths) (q : o ≡ false) where
  none_outside : count_outside n || any_below (entry_outside n (nth kinds) (nth lengths)) (handed_in n kinds lengths) ≡ false
  unfolding write_outside
  none_outside = sym p ∙ q

  pub write_counted : Counted n
  write_counted = counted n (or_left (count_outside n) _ none_outside)

  pub none_handed : (e : ℕ) → e < handed_in n kinds lengths → entry_outside n (nth kinds) (nth lengths) e ≡ false
  none_handed = none_below (entry_outside n (nth kinds) (nth lengths)) (handed_in n kinds lengths) (or_right (count_outside n) _ none_outside)

  -- number 1 is passed, and the lengths decide; x is the length of the head
  pub write_late : (head : ℕ) {x : ℕ} {a b c r : Answer} → x ≡ head_bytes n → a ≡ done x → b ≡ cond (wrong x head) (refused wrong_length (buffer_place 3)) a
      → c ≡ cond (wrong n (length lengths)) (refused wrong_length (buffer_place 2)) b → r ≡ cond (wrong n (length kinds)) (refused wrong_length (buffer_place 1)) c
      → r ≡ write_answer n kinds lengths head
  unfolding write_answer in_turn row_then faults_then
  write_late head i e f g h = turn_passed outside_set _ _ _ p q (by_turns _ _ (h ∙ rw (g, f, e, i)))

-- what a granted write was handed
pub written_head : (n : ℕ) (kinds lengths head : List ℕ) {r : Answer} → r ≡ write_answer n kinds lengths (length head) → r.number ≡ all_done → Head n kinds lengths head
unfolding write_answer rising row_number Passed RowPassed NoFault
written_head n kinds lengths head e z =
    let g = granted_passed (write_rows n kinds lengths (length head)) (head_bytes n) refl e z in
    let c = write_counted n kinds lengths refl g.0 in
    let k = right_length g.1.0.0 in
    let l = right_length g.1.0.1.0 in
    record {
      few = c.few;
      kinds_long = k;
      lengths_long = l;
      head_long = right_length g.1.0.1.1.0;
      inside = λ i h. none_handed n kinds lengths refl g.0 i (rw (k, l) (omega arith));
    }

pub head_counted : (n : ℕ) (kinds lengths head : List ℕ) → (write_answer n kinds lengths (length head)).number ≡ all_done → Counted n
unfolding write_answer rising row_number Passed RowPassed NoFault
head_counted n kinds lengths head z =
    write_counted n kinds lengths refl (granted_passed (write_rows n kinds lengths (length head)) (head_bytes n) refl refl z).0

-- ---- reading

-- the first bytes, one by one
module _ (s : List ℕ) (k : ℕ) {x y : ℕ} (p : x ≡ get_or s k 0) (q : y ≡ get_or fixed k 0) where
  pub byte_differs : (x ≡ y → ⊥) → fixed_differs s k ≡ true
  byte_differs h = rw (ne_eqb (get_or s k 0) (get_or fixed k 0) (λ e. h (p ∙ e ∙ sym q)))

  pub byte_agrees : x ≡ y → fixed_differs s k ≡ false
  byte_agrees h = rw (eq-eqb (get_or s k 0) (get_or fixed k 0) (sym p ∙ h ∙ q))

module _ (size : ℕ) (s : List ℕ) {k : ℕ} (l : fixed_bytes ≤ size) (f : PassedOver k (fixed_differs s) fixed_bytes) where
  pub some_differs : k < fixed_bytes → fixed_differs s k ≡ true → true ≡ is_no_archive size s
  unfolding is_no_archive
  some_differs h e = rw (le-ltb size fixed_bytes l, ← first_here f h e) (sym (lt-ltb k fixed_bytes h))

  pub none_differs : fixed_bytes ≤ k → false ≡ is_no_archive size s
  unfolding is_no_archive
  none_differs h = rw (le-ltb size fixed_bytes l, ← first_end f h) (sym (le-ltb k fixed_bytes h))

-- a row that looks at the count, place 0, and at n entries
place_row : (k n : ℕ) (b : Bool) (h : ℕ → Bool) (rows : List Row) (c : ℕ)
    → answer_of (each k (suc n) (at_place b h) ∷ rows) c ≡ cond b (refused k 0) (cond (ltb (first h n) n) (refused k (first h n + 1)) (answer_of rows c))
unfolding answer_of first_of row_number places_of holds_at first
place_row k n true h rows c = rw (lt-ltb 0 (suc n) (omega arith))
place_row k n false h rows c =
    let t : ltb (suc (first h n)) (suc n) ≡ ltb (first h n) n = same_test (suc (first h n)) (suc n) (first h n) n (λ l. omega arith) (λ l. omega arith) in
    rw (t, add-one)

-- the rows of 11 and 12, where there is a count
entry_rows : (size : ℕ) (s : List ℕ) → bad_count size s ≡ false
    → answer_of (each bad_entry (suc (count_in s)) (at_place (bad_count size s) (bad_kind size s))
    ∷ each misplaced (suc (count_in s)) (at_place false (off_rule size s (count_in s)))
    ∷ []) (count_in s) ≡ entries_answer size s (count_in s)
unfolding entries_answer answer_of
entry_rows size s h =
    let n = count_in s in
    let bad = first (bad_kind size s) n in
    place_row bad_entry n (bad_count size s) (bad_kind size s) (each misplaced (suc n) (at_place false (off_rule size s n)) ∷ []) n
    ∙ rw h (ap (cond (ltb bad n) (refused bad_entry (bad + 1))) (place_row misplaced n false (off_rule size s n) [] n))

module _ (size : ℕ) (s : List ℕ) {o : Bool} (p : o ≡ is_no_archive size s) where
  pub no_archive : (c : ℕ) {a : Answer} → o ≡ true → a ≡ refused not_archive 0 → a ≡ answer_of (open_late_rows size s) c
  unfolding open_late_rows
  no_archive c q e = turn_refused not_archive _ _ _ p q e

  module _ (q : o ≡ false) {n : ℕ} (i : n ≡ count_in s) {t : Bool} (b : t ≡ bad_count_of size n) where
    count_is : bad_count size s ≡ t
    unfolding bad_count
    count_is = rw (b, i)

    pub bad_count_law : {a : Answer} → t ≡ true → a ≡ refused bad_entry 0 → a ≡ answer_of (open_late_rows size s) (count_in s)
    unfolding open_late_rows
    bad_count_law h e = turn_passed not_archive _ _ _ p q (e ∙ sym (place_row bad_entry (count_in s) (bad_count size s) (bad_kind size s) _ _ ∙ rw (count_is, h)))

    pub entries_decide : {a : Answer} → t ≡ false → a ≡ entries_answer size s n → a ≡ answer_of (open_late_rows size s) (count_in s)
    unfolding open_late_rows
    entries_decide h e = turn_passed not_archive _ _ _ p q (e ∙ ap (entries_answer size s) i ∙ sym (entry_rows size s (count_is ∙ h)))

-- the answer on entries, as the code puts it together
pub entries_by : (size : ℕ) (s : List ℕ) (n : ℕ) {bad off : ℕ} {a b r : Answer} → bad ≡ first (bad_kind size s) n → off ≡ first (off_rule size s n) n → a ≡ done n
    → b ≡ cond (ltb off n) (refused misplaced (off + 1)) a → r ≡ cond (ltb bad n) (refused bad_entry (bad + 1)) b → r ≡ entries_answer size s n
unfolding entries_answer
entries_by size s n i j e f g = g ∙ rw (f, e, i, j)

-- the lengths first, and then the file
module _ (size : ℕ) (s : List ℕ) (k o l : ℕ) {r : Answer} (e : r ≡ answer_of (open_early_rows size (length s) k o l) 0) where
  abbrev early : List Row
  early = open_early_rows size (length s) k o l

  pub open_refused : (r.number ≡ all_done → ⊥) → r ≡ open_answer size s k o l
  unfolding open_answer
  open_refused h = early_refused early (open_late_rows size s) 0 (count_in s) (e ∙ in_turn_law early 0) h

  open_early : r.number ≡ all_done → Passed early
  unfolding open_early_rows rising row_number
  open_early z = passed early (done 0) refl (e ∙ in_turn_law early 0) z

  pub open_late : {a : Answer} → r.number ≡ all_done → a ≡ answer_of (open_late_rows size s) (count_in s) → a ≡ open_answer size s k o l
  unfolding open_answer
  open_late z h = h ∙ sym (early_passed early (open_late_rows size s) (count_in s) (open_early z))

-- ---- what a granted read has shown

pub record ReadShown (size : ℕ) (s : List ℕ) (k o l : ℕ) : Type 0 where
  pub bytes : length s ≡ min size most_head_bytes
  pub kinds : k ≡ most_entries
  pub offsets : o ≡ most_entries
  pub lengths : l ≡ most_entries
  pub begins : is_no_archive size s ≡ false
  pub count : bad_count size s ≡ false
  pub kind : (e : ℕ) → e < count_in s → bad_kind size s e ≡ false
  pub rule : (e : ℕ) → e < count_in s → off_rule size s (count_in s) e ≡ false

pub open_shown : (size : ℕ) (s : List ℕ) (k o l : ℕ) {r : Answer} → r ≡ open_answer size s k o l → r.number ≡ all_done → ReadShown size s k o l
unfolding open_answer open_early_rows open_late_rows rising row_number Passed RowPassed NoFault
open_shown size s k o l e z =
    let g = granted_passed (open_rows size s k o l) (count_in s) refl e z in
    let long = g.0 in
    let c = none_below (at_place (bad_count size s) (bad_kind size s)) (suc (count_in s)) g.1.1.0 in
    let f = none_below (at_place false (off_rule size s (count_in s))) (suc (count_in s)) g.1.1.1.0 in
    record {
      bytes = right_length long.0;
      kinds = right_length long.1.0;
      offsets = right_length long.1.1.0;
      lengths = right_length long.1.1.1.0;
      begins = g.1.0;
      count = c 0 (omega arith);
      kind = λ i h. c (suc i) (omega arith);
      rule = λ i h. f (suc i) (omega arith);
    }

pub opened_count : (size : ℕ) (s : List ℕ) → bad_count size s ≡ false → Counted (count_in s)
unfolding bad_count
opened_count size s e = counted (count_in s) (or_right (ltb size (head_bytes 0)) (count_outside (count_in s)) e)

-- and so the lists have room for what it counted
open_counts : (size : ℕ) (s : List ℕ) (k o l : ℕ) {r : Answer} → r ≡ open_answer size s k o l → r.number ≡ all_done → r.count ≡ count_in s
open_counts size s k o l e z =
    ap (λ (a : Answer). a.count) (e ∙ granted (open_exactly size s k o l) (ap (λ (a : Answer). a.number) (sym e) ∙ z))

pub open_room : (size : ℕ) (s : List ℕ) (k o l : ℕ) {r : Answer} → r ≡ open_answer size s k o l → r.number ≡ all_done → Room r.count k o l
open_room size s k o l {r} e z =
    let g = open_shown size s k o l e z in
    record {
      few = rw (open_counts size s k o l e z) (opened_count size s g.count).few;
      kinds_long = g.kinds;
      offsets_long = g.offsets;
      lengths_long = g.lengths;
    }

-- ---- what a granted read leaves

pub open_listed : (size : ℕ) (s kinds offsets lengths : List ℕ) {r : Answer} {k o l : List ℕ}
    → r ≡ open_answer size s (length kinds) (length offsets) (length lengths) → r.number ≡ all_done → Listed r.count s kinds offsets lengths k o l
    → Outcome (open_answer size s (length kinds) (length offsets) (length lengths)) (open_leaves size s kinds offsets lengths) r (k, (o, l))
unfolding open_leaves
open_listed size s kinds offsets lengths {r} {k} {o} {l} e z t =
    let n = count_in s in
    let i = open_counts size s (length kinds) (length offsets) (length lengths) e z in
    let zero-off : tabulate n (field_in 1 0 s) ≡ tabulate n (kind_in s) =
    tabulate_ext n (field_in 1 0 s) (kind_in s) (λ e h. ap (number_at 1 s) (add-zero (head_bytes e))) in
    let table : ◌≡◌ {A = List ℕ × (List ℕ × List ℕ)} (k, (o, l)) (table_in s kinds offsets lengths) =
    rw (t.kinds_are, t.offsets_are, t.lengths_are, i, zero-off) in
    meets_done (kinds, (offsets, lengths)) e z table
