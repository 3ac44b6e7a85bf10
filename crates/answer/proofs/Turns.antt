-- Tests in turn meet the table. A call that tests some of its rows first and the others later is refused by the first ones as the whole table
-- says, or has shown that none of them holds, and the others decide. Assumes nothing.
use Prim.Native.Nat.{ℕ, suc, ◌+◌, ◌≤◌, ◌<◌}
use mathlib.Core.Bool.{Bool, true, false, cond, ◌&&◌, ◌||◌}
use mathlib.Core.Path.{◌≡◌, refl, sym, ap, ◌∙◌}
use mathlib.Core.List.{List, [], ◌∷◌, ◌++◌}
use native.Mathlib.Nat.{lt_irrefl}
use native.Mathlib.Omega.{arith}
use borrow.Author.Tests.{ltb-true, eq-eqb, ne_eqb, lt-ltb, le-ltb, eqb-true, not-false}
use lib.Dec.{ltb, eqb}
use lib.ListN.{length}
use Rattle.prelude.specs.Loops.{first}
use Rattle.prelude.proofs.Common.{and_left, and_right}
use Rattle.prelude.proofs.LoopLaws.{first_is, first_none}
use Rattle.answer.specs.Numbers.{all_done, wrong_length}
use Rattle.answer.specs.Rows.{Row, whole, buffers, each, done, refused, wrong, buffer_place, fault_at}
use Rattle.answer.specs.Rows.{row_number, places_of, holds_at, first_of, answer_of, rising}
use Rattle.answer.specs.Steps.{faults_then, row_then, in_turn, NoFault, RowPassed, Passed}
use Rattle.answer.specs.declared.Answer.{Answer}

-- ---- one row, as the test that code makes of it

pub row_none : (r : Row) (rows : List Row) (c : ℕ) → ((p : ℕ) → p < places_of r → holds_at r p ≡ false) → answer_of (r ∷ rows) c ≡ answer_of rows c
unfolding answer_of first_of
row_none r rows c h = rw (first_none (holds_at r) (places_of r) h, le-ltb (places_of r) (places_of r) (omega arith))

row_at : (r : Row) (rows : List Row) (c p : ℕ) → p < places_of r → holds_at r p ≡ true → ((q : ℕ) → q < p → holds_at r q ≡ false)
    → answer_of (r ∷ rows) c ≡ refused (row_number r) p
unfolding answer_of first_of
row_at r rows c p l h n = rw (first_is (holds_at r) p (places_of r) n l h, lt-ltb p (places_of r) l)

row_whole : (k : ℕ) (b : Bool) (rows : List Row) (c : ℕ) → answer_of (whole k b ∷ rows) c ≡ cond b (refused k 0) (answer_of rows c)
unfolding places_of holds_at row_number
row_whole k true rows c = row_at (whole k true) rows c 0 (omega arith) refl (λ q l. absurd (omega arith))
row_whole k false rows c = row_none (whole k false) rows c (λ p l. refl)

-- a later buffer's place is no smaller, and there is a place for each of n buffers
place_mono : (i j : ℕ) → i ≤ j → buffer_place i ≤ buffer_place j
unfolding buffer_place
place_mono i j h = omega arith

place_within : (i : ℕ) → buffer_place i ≤ i
unfolding buffer_place
place_within i = omega arith

-- before the first buffer's place no buffer has its place
fault_early : (bs : List Bool) (i j q : ℕ) → q < buffer_place i → i ≤ j → fault_at bs j q ≡ false
unfolding fault_at
fault_early [] i j q h l = refl
fault_early (b ∷ bs) i j q h l =
    rw (ne_eqb q (buffer_place j) (λ e. lt_irrefl q (omega (arith, place_mono i j l))), fault_early bs i (suc j) q h (omega arith)) (nothing b)
  where
    nothing : (b : Bool) → b && false || false ≡ false
    nothing true = refl
    nothing false = refl

-- the buffers one by one; n is at least the number of places
faults : (k n : ℕ) (bs : List Bool) (i : ℕ) (rows : List Row) (c : ℕ) → i + length bs ≤ n
    → answer_of (each k n (fault_at bs i) ∷ rows) c ≡ faults_then k bs i (answer_of rows c)
unfolding fault_at faults_then places_of holds_at row_number
faults k n [] i rows c h = row_none (each k n (λ p. false)) rows c (λ p l. refl)
faults k n (true ∷ bs) i rows c h =
    row_at (each k n (fault_at (true ∷ bs) i)) rows c (buffer_place i) (omega (arith, place_within i))
    (rw (eq-eqb (buffer_place i) (buffer_place i) refl)) (λ q l. fault_early (true ∷ bs) i i q l (omega arith))
faults k n (false ∷ bs) i rows c h = faults k n bs (suc i) rows c (omega arith)

pub row_then_law : (r : Row) (rows : List Row) (c : ℕ) → answer_of (r ∷ rows) c ≡ row_then r (answer_of rows c)
unfolding row_then answer_of first_of row_number places_of holds_at
row_then_law (whole k b) rows c = row_whole k b rows c
row_then_law (buffers k bs) rows c = faults k (suc (length bs)) bs 1 rows c (omega arith)
row_then_law (each k n h) rows c = refl

-- THE TABLE IN TURN
pub in_turn_law : (rows : List Row) (c : ℕ) → answer_of rows c ≡ in_turn rows (done c)
unfolding in_turn answer_of
in_turn_law [] c = refl
in_turn_law (r ∷ rows) c = row_then_law r rows c ∙ ap (row_then r) (in_turn_law rows c)

-- a call that tests in turn answers by its table
pub by_turns : (rows : List Row) (c : ℕ) {r : Answer} → r ≡ in_turn rows (done c) → r ≡ answer_of rows c
by_turns rows c e = e ∙ sym (in_turn_law rows c)

-- ---- some rows first, the others later

then_later : (rows late : List Row) (next : Answer) → in_turn (rows ++ late) next ≡ in_turn rows (in_turn late next)
unfolding in_turn
then_later [] late next = refl
then_later (r ∷ rows) late next = ap (row_then r) (then_later rows late next)

-- the first rows in turn, and then what the others answer
pub turn_late : (early late : List Row) (d : ℕ) → answer_of (early ++ late) d ≡ in_turn early (answer_of late d)
turn_late early late d = in_turn_law (early ++ late) d ∙ then_later early late (done d) ∙ ap (in_turn early) (sym (in_turn_law late d))

-- a test that refuses leaves what comes next out
test_stops : (t : Bool) (a x y : Answer) → ((x.number ≡ all_done → ⊥) → x ≡ y) → ((cond t a x).number ≡ all_done → ⊥) → cond t a x ≡ cond t a y
test_stops true a x y h n = refl
test_stops false a x y h n = h n

faults_stop : (k : ℕ) (bs : List Bool) (i : ℕ) (x y : Answer) → ((x.number ≡ all_done → ⊥) → x ≡ y)
    → ((faults_then k bs i x).number ≡ all_done → ⊥) → faults_then k bs i x ≡ faults_then k bs i y
unfolding faults_then
faults_stop k [] i x y h n = h n
faults_stop k (b ∷ bs) i x y h n = test_stops b (refused k (buffer_place i)) _ _ (faults_stop k bs (suc i) x y h) n

row_stops : (r : Row) (x y : Answer) → ((x.number ≡ all_done → ⊥) → x ≡ y) → ((row_then r x).number ≡ all_done → ⊥) → row_then r x ≡ row_then r y
unfolding row_then
row_stops (whole k b) x y h n = test_stops b (refused k 0) x y h n
row_stops (buffers k bs) x y h n = faults_stop k bs 1 x y h n
row_stops (each k m p) x y h n = test_stops (ltb (first p m) m) (refused k (first p m)) x y h n

stops : (rows : List Row) (c : ℕ) (y : Answer) → ((in_turn rows (done c)).number ≡ all_done → ⊥) → in_turn rows (done c) ≡ in_turn rows y
unfolding in_turn
stops [] c y n = absurd (n refl)
stops (r ∷ rows) c y n = row_stops r (in_turn rows (done c)) (in_turn rows y) (stops rows c y) n

-- refused by the first rows: that is the whole table's answer
pub early_refused : (early late : List Row) (c d : ℕ) {r : Answer} → r ≡ in_turn early (done c) → (r.number ≡ all_done → ⊥)
    → r ≡ answer_of (early ++ late) d
early_refused early late c d {r} e n =
    e ∙ stops early c (answer_of late d) (λ z. n (ap (λ (x : Answer). x.number) e ∙ z)) ∙ sym (turn_late early late d)

-- ---- what a call that goes on has shown: the number is 0 only if no test refused, where each refuses by a number that is not 0

test_passed : (t : Bool) (k p : ℕ) (x : Answer) → 0 < k → (cond t (refused k p) x).number ≡ all_done → (t ≡ false) × (x.number ≡ all_done)
test_passed true k p x h e = absurd (omega arith)
test_passed false k p x h e = (refl, e)

faults_passed : (k : ℕ) (bs : List Bool) (i : ℕ) (x : Answer) → 0 < k → (faults_then k bs i x).number ≡ all_done → NoFault bs × (x.number ≡ all_done)
unfolding faults_then NoFault
faults_passed k [] i x h e = (tt, e)
faults_passed k (b ∷ bs) i x h e =
    let t = test_passed b k (buffer_place i) (faults_then k bs (suc i) x) h e in
    let s = faults_passed k bs (suc i) x h t.1 in ((t.0, s.0), s.1)

row_passed : (r : Row) (x : Answer) → 0 < row_number r → (row_then r x).number ≡ all_done → RowPassed r × (x.number ≡ all_done)
unfolding row_then RowPassed row_number
row_passed (whole k b) x h e = test_passed b k 0 x h e
row_passed (buffers k bs) x h e = faults_passed k bs 1 x h e
row_passed (each k n p) x h e = test_passed (ltb (first p n) n) k (first p n) x h e

passed_from : (a : ℕ) (rows : List Row) (x : Answer) → rising a rows ≡ true → (in_turn rows x).number ≡ all_done → Passed rows
unfolding in_turn Passed rising
passed_from a [] x e z = tt
passed_from a (r ∷ rows) x e z =
    let above = ltb-true a (row_number r) (and_left (ltb a (row_number r)) (rising (row_number r) rows) e) in
    let p = row_passed r (in_turn rows x) (omega arith) z in
    (p.0, passed_from (row_number r) rows x (and_right (ltb a (row_number r)) (rising (row_number r) rows) e) p.1)

-- WHAT IS SHOWN where a call goes on, of rows whose numbers rise
pub passed : (rows : List Row) (x : Answer) {r : Answer} → rising 0 rows ≡ true → r ≡ in_turn rows x → r.number ≡ all_done → Passed rows
passed rows x rise e z = passed_from 0 rows x rise (ap (λ (y : Answer). y.number) (sym e) ∙ z)

-- the same of a call that answers by its table
pub granted_passed : (rows : List Row) (c : ℕ) {r : Answer} → rising 0 rows ≡ true → r ≡ answer_of rows c → r.number ≡ all_done → Passed rows
granted_passed rows c rise e z = passed rows (done c) rise (e ∙ in_turn_law rows c) z

-- ---- and then the others decide

no_fault : (k : ℕ) (bs : List Bool) (i : ℕ) (x : Answer) → NoFault bs → faults_then k bs i x ≡ x
unfolding faults_then NoFault
no_fault k [] i x p = refl
no_fault k (b ∷ bs) i x p = rw p.0 (no_fault k bs (suc i) x p.1)

row_goes_on : (r : Row) (x : Answer) → RowPassed r → row_then r x ≡ x
unfolding row_then RowPassed
row_goes_on (whole k b) x p = rw p
row_goes_on (buffers k bs) x p = no_fault k bs 1 x p
row_goes_on (each k n h) x p = rw p

goes_on : (rows : List Row) (x : Answer) → Passed rows → in_turn rows x ≡ x
unfolding in_turn Passed
goes_on [] x p = refl
goes_on (r ∷ rows) x p = row_goes_on r (in_turn rows x) p.0 ∙ goes_on rows x p.1

pub early_passed : (early late : List Row) (d : ℕ) → Passed early → answer_of (early ++ late) d ≡ answer_of late d
early_passed early late d p = turn_late early late d ∙ goes_on early (answer_of late d) p

-- no test holds: the call is done
pub all_passed : (rows : List Row) (c : ℕ) → Passed rows → answer_of rows c ≡ done c
all_passed rows c p = in_turn_law rows c ∙ goes_on rows (done c) p

-- ---- tests that were passed

-- the length is the stated one
pub right_length : {stated long : ℕ} → wrong stated long ≡ false → long ≡ stated
right_length {stated} {long} e = eqb-true long stated (not-false (eqb long stated) e)

pub length_right : {stated long : ℕ} → long ≡ stated → wrong stated long ≡ false
length_right {stated} {long} e = rw (eq-eqb long stated e)

-- a row that holds nowhere
pub none_there : (n : ℕ) (h : ℕ → Bool) → ((p : ℕ) → p < n → h p ≡ false) → ltb (first h n) n ≡ false
none_there n h e = rw (first_none h n e) (le-ltb n n (omega arith))

-- ---- the returns of a call that tests in turn, from what the functions that it called ensure: `search turns`

module _ {a : Answer} where
  -- the first row holds, and the call returns early
  pub turn_refused : (k : ℕ) (b : Bool) (rows : List Row) (c : ℕ) {o : Bool} → o ≡ b → o ≡ true → a ≡ refused k 0 → a ≡ answer_of (whole k b ∷ rows) c
  turn_refused k b rows c p q e = e ∙ rw (row_whole k b rows c, ← p, q)

  -- it does not, and the others decide
  pub turn_passed : (k : ℕ) (b : Bool) (rows : List Row) (c : ℕ) {o : Bool} → o ≡ b → o ≡ false → a ≡ answer_of rows c → a ≡ answer_of (whole k b ∷ rows) c
  turn_passed k b rows c p q e = e ∙ rw (row_whole k b rows c, ← p, q)

  -- there are no others
  pub turn_done : (c : ℕ) {n : ℕ} → a ≡ done n → n ≡ c → a ≡ answer_of [] c
  unfolding answer_of
  turn_done c e h = e ∙ rw h

  -- `refuse_if` and `refuse_length`
  pub turn_test : (k : ℕ) {x y : Answer} {t u : Bool} {p q : ℕ} → a ≡ cond t (refused k p) y → t ≡ u → p ≡ q → y ≡ x → a ≡ cond u (refused k q) x
  turn_test k e h i j = e ∙ rw (h, i, j)

  pub turn_length : (i long : ℕ) {x y : Answer} {s t : ℕ} → a ≡ cond (wrong s long) (refused wrong_length (buffer_place i)) y → s ≡ t → y ≡ x
      → a ≡ cond (wrong t long) (refused wrong_length (buffer_place i)) x
  turn_length i long e h j = e ∙ rw (h, j)

pub ruleset turns = (turn_refused, turn_passed, turn_done, turn_test, turn_length)
