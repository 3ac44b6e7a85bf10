-- Numbers 2 and 3 name the first lent buffer at fault by its position: document 02, M-103, of every table. Assumes nothing.
use Prim.Native.Nat.{ℕ, suc, ◌<◌}
use mathlib.Core.Bool.{Bool, true, false}
use mathlib.Core.Path.{◌≡◌, refl, sym, ap, ◌∙◌}
use mathlib.Core.List.{List, [], ◌∷◌, ◌++◌}
use mathlib.Core.Logic.{inl, inr, ⊎_elim}
use native.Mathlib.Omega.{arith}
use borrow.Author.Tests.{ltb-true}
use lib.Dec.{ltb}
use Rattle.prelude.proofs.Common.{and_left, and_right}
use Rattle.answer.specs.Rows.{Row, buffers, refused, buffer_place, FirstFault, here, later}
use Rattle.answer.specs.Rows.{Applies, NotAfter, number, place, row_number, places_of, holds_at, answer_of, rising}
use Rattle.answer.specs.Steps.{faults_then, row_then}
use Rattle.answer.specs.Demand1.{Exactly}
use Rattle.answer.specs.declared.Answer.{Answer}
use Rattle.answer.proofs.Table.{Said, said_done, least_of, above, said, exactly, only_exactly}
use Rattle.answer.proofs.Turns.{row_none, row_then_law}

-- THE LAW: a buffer's place is its position
place_position : (i : ℕ) → buffer_place i ≡ i
unfolding buffer_place
place_position i = omega arith

-- ---- the buffers in turn

first_refuses : (k i p : ℕ) {bs : List Bool} (next : Answer) → FirstFault i bs p → faults_then k bs i next ≡ refused k p
unfolding faults_then
first_refuses k i p next here = ap (refused k) (place_position i)
first_refuses k i p next (later f) = first_refuses k (suc i) p next f

refuses_first : (k i : ℕ) (bs : List Bool) (next : Answer) → (next.number ≡ k → ⊥) → (faults_then k bs i next).number ≡ k
    → FirstFault i bs (faults_then k bs i next).place
unfolding faults_then
refuses_first k i [] next n e = absurd (n e)
refuses_first k i (true ∷ bs) next n e = rw (place_position i) here
refuses_first k i (false ∷ bs) next n e = later (refuses_first k (suc i) bs next n e)

-- ---- in a table, whose numbers rise

-- the numbers before a row are smaller
before_row : (a : ℕ) (early : List Row) (r : Row) (late : List Row) → rising a (early ++ r ∷ late) ≡ true → a < row_number r
unfolding rising
before_row a [] r late e = ltb-true a (row_number r) (and_left (ltb a (row_number r)) (rising (row_number r) late) e)
before_row a (x ∷ early) r late e =
    omega (
      arith,
      ltb-true a (row_number x) (and_left (ltb a (row_number x)) (rising (row_number x) (early ++ r ∷ late)) e),
      before_row (row_number x) early r late (and_right (ltb a (row_number x)) (rising (row_number x) (early ++ r ∷ late)) e),
    )

-- and those behind it greater
behind_row : (a : ℕ) (early : List Row) (r : Row) (late : List Row) → rising a (early ++ r ∷ late) ≡ true → rising (row_number r) late ≡ true
unfolding rising
behind_row a [] r late e = and_right (ltb a (row_number r)) (rising (row_number r) late) e
behind_row a (x ∷ early) r late e =
    behind_row (row_number x) early r late (and_right (ltb a (row_number x)) (rising (row_number x) (early ++ r ∷ late)) e)

-- what applies before a row has a smaller number, and applies in the whole table
early_smaller : (a : ℕ) (early : List Row) (r : Row) (late : List Row) → rising a (early ++ r ∷ late) ≡ true → (j q : ℕ) → Applies early j q → j < row_number r
unfolding rising
early_smaller a [] r late e j q x = absurd x
early_smaller a (y ∷ early) r late e j q x =
    let rest : rising (row_number y) (early ++ r ∷ late) ≡ true = and_right (ltb a (row_number y)) (rising (row_number y) (early ++ r ∷ late)) e in
    ⊎_elim (λ h. omega (arith, before_row (row_number y) early r late rest, h.number_is)) (early_smaller (row_number y) early r late rest j q) x

early_applies : (early rows : List Row) (j q : ℕ) → Applies early j q → Applies (early ++ rows) j q
early_applies [] rows j q x = absurd x
early_applies (y ∷ early) rows j q (inl h) = inl h
early_applies (y ∷ early) rows j q (inr x) = inr (early_applies early rows j q x)

-- the rows behind it do not answer by its number
not_behind : (k c : ℕ) (rows : List Row) {x : Answer} → 0 < k → ((j q : ℕ) → Applies rows j q → k < j) → Said rows c x → x.number ≡ k → ⊥
not_behind k c rows h over (said_done n) e = omega (arith, e)
not_behind k c rows h over (least_of {k = j} {p = q} l) e = omega (arith, over j q l.applies)

-- rows that do not apply leave the answer to the others
none_before : (early rows : List Row) (c : ℕ) → ((j q : ℕ) → Applies early j q → ⊥) → answer_of (early ++ rows) c ≡ answer_of rows c
none_before [] rows c n = refl
none_before (r ∷ early) rows c n =
    row_none r (early ++ rows) c (λ p l. nowhere p l (holds_at r p) refl) ∙ none_before early rows c (λ j q a. n j q (inr a))
  where
    nowhere : (p : ℕ) → p < places_of r → (b : Bool) → holds_at r p ≡ b → holds_at r p ≡ false
    nowhere p l true e = absurd (n (row_number r) p (inl (record { number_is = refl; within = l; holds_there = e })))
    nowhere p l false e = e

module _ (early : List Row) (k : ℕ) (bs : List Bool) (late : List Row) (c : ℕ) (rise : rising 0 (early ++ buffers k bs ∷ late) ≡ true)
    {r : Answer} (x : Exactly (early ++ buffers k bs ∷ late) c r) where
  abbrev rows : List Row
  rows = early ++ buffers k bs ∷ late

  -- answered by the number of this row, none of those before applies: it would have the smaller number
  none_applied : r.number ≡ k → (j q : ℕ) → Applies early j q → ⊥
  unfolding row_number
  none_applied e j q a =
      let some : 0 < k = before_row 0 early (buffers k bs) late rise in
      let smaller : j < k = early_smaller 0 early (buffers k bs) late rise j q a in
      after smaller ((x.refused_by (λ z. omega (arith, some, z, e))).least j q (early_applies early (buffers k bs ∷ late) j q a))
    where
      after : j < k → NotAfter r.number r.place j q → ⊥
      after l (number m) = omega (arith, l, m, e)
      after l (place d m) = omega (arith, l, d, e)

  -- and where none applies this row answers
  here_answered : ((j q : ℕ) → Applies early j q → ⊥) → r ≡ faults_then k bs 1 (answer_of late c)
  unfolding row_then
  here_answered n = only_exactly x (exactly rows c rise) ∙ none_before early (buffers k bs ∷ late) c n ∙ row_then_law (buffers k bs) late c

  -- WHICH BUFFER: answered by the number of a row of buffers, the place is the position, from 1, of the first that is at fault
  pub which_buffer : r.number ≡ k → FirstFault 1 bs r.place
  unfolding row_number
  which_buffer e =
      let q = here_answered (none_applied e) in
      let risen : rising k late ≡ true = behind_row 0 early (buffers k bs) late rise in
      let other : (answer_of late c).number ≡ k → ⊥ =
      not_behind k c late (before_row 0 early (buffers k bs) late rise) (λ j p. above k late j p risen) (said k late c risen) in
      rw (ap (λ (y : Answer). y.place) q) (refuses_first k 1 bs (answer_of late c) other (ap (λ (y : Answer). y.number) (sym q) ∙ e))

  -- and so it is answered wherever none of the rows before applies
  pub first_named : (p : ℕ) → ((j q : ℕ) → Applies early j q → ⊥) → FirstFault 1 bs p → r ≡ refused k p
  first_named p n f = here_answered n ∙ first_refuses k 1 p (answer_of late c) f
