-- The laws of the table of numbers: which row answers, in both directions. Assumes nothing.
use Prim.Native.Nat.{ℕ, ◌≤◌, ◌<◌}
use mathlib.Core.Bool.{Bool, true, false, cond}
use mathlib.Core.Path.{◌≡◌, refl, sym, ap, ◌∙◌}
use mathlib.Core.List.{List, [], ◌∷◌}
use mathlib.Core.Logic.{inl, inr, ⊎_elim}
use native.Mathlib.Nat.{lt_of_not-le}
use native.Mathlib.Decide.{dec_le, ℕ_discrete}
use native.Mathlib.Omega.{arith}
use borrow.Author.Tests.{ltb-true, ltb-false}
use lib.Dec.{ltb}
use Rattle.prelude.specs.Loops.{first}
use Rattle.prelude.proofs.Common.{clash, and_left, and_right}
use Rattle.prelude.proofs.LoopLaws.{First, first_holds}
use Rattle.answer.specs.Numbers.{all_done}
use Rattle.answer.specs.Rows.{Row, done, refused, row_number, places_of, holds_at, first_of, answer_of}
use Rattle.answer.specs.Rows.{HoldsAt, Applies, NotAfter, number, place, Least, rising}
use Rattle.answer.specs.Outcomes.{Outcome, written}
use Rattle.answer.specs.Demand1.{Exactly, Demand1}
use Rattle.answer.specs.declared.Answer.{Answer}
use Rattle.answer.proofs.Meets.{written_done, written_refused}

-- ---- which row answers

-- a number that applies is above what the rows rise from
pub above : (a : ℕ) (rows : List Row) (j q : ℕ) → rising a rows ≡ true → Applies rows j q → a < j
unfolding rising
above a [] j q e x = absurd x
above a (r ∷ rows) j q e (inl h) = omega (arith, ltb-true a (row_number r) (and_left (ltb a (row_number r)) (rising (row_number r) rows) e), h.number_is)
above a (r ∷ rows) j q e (inr x) =
    omega (
      arith,
      ltb-true a (row_number r) (and_left (ltb a (row_number r)) (rising (row_number r) rows) e),
      above (row_number r) rows j q
          (and_right (ltb a (row_number r)) (rising (row_number r) rows) e) x,
    )

-- what a table answers: done, and nothing applies; or the least that applies
pub data Said (rows : List Row) (c : ℕ) : Answer → Type 0 where
  said_done : ((j q : ℕ) → Applies rows j q → ⊥) → Said rows c (done c)
  least_of : {k p : ℕ} → Least rows k p → Said rows c (refused k p)

module _ (r : Row) (rows : List Row) (c : ℕ) (f : First (holds_at r) (places_of r) (first (holds_at r) (places_of r))) where
  abbrev found : ℕ
  found = first (holds_at r) (places_of r)

  -- this row holds: it is the least
  first_least : ((j q : ℕ) → Applies rows j q → row_number r < j) → found < places_of r → Least (r ∷ rows) (row_number r) found
  first_least over l = record { applies = inl (record { number_is = refl; within = l; holds_there = f.here l }); least = none }
    where
      late : (q : ℕ) → holds_at r q ≡ true → Dec (found ≤ q) → found ≤ q
      late q e (yes h) = h
      late q e (no n) = absurd (clash e (f.none q (lt_of_not-le n)))

      none : (j q : ℕ) → Applies (r ∷ rows) j q → NotAfter (row_number r) found j q
      none j q (inl h) = place h.number_is (late q h.holds_there (dec_le found q))
      none j q (inr x) = number (over j q x)

  -- it does not: the later rows decide
  passed : places_of r ≤ found → (k p : ℕ) → HoldsAt r k p → ⊥
  passed l k p h = clash h.holds_there (f.none p (omega (arith, h.within)))

  later : places_of r ≤ found → {x : Answer} → Said rows c x → Said (r ∷ rows) c x
  later l (said_done n) = said_done (λ j q. ⊎_elim (passed l j q) (n j q))
  later l (least_of {k} {p} m) =
      least_of (record { applies = inr m.applies; least = λ j q. ⊎_elim (λ h. absurd (passed l j q h)) (m.least j q) })

  by_test : (b : Bool) → ltb found (places_of r) ≡ b → ((j q : ℕ) → Applies rows j q → row_number r < j) → Said rows c (answer_of rows c)
      → Said (r ∷ rows) c (cond b (refused (row_number r) found) (answer_of rows c))
  by_test true e over s = least_of (first_least over (ltb-true found (places_of r) e))
  by_test false e over s = later (ltb-false found (places_of r) e) s

-- THE TABLE: whatever rows there are, with rising numbers, the answer is "done" where nothing applies and else the least that applies
pub said : (a : ℕ) (rows : List Row) (c : ℕ) → rising a rows ≡ true → Said rows c (answer_of rows c)
unfolding answer_of first_of rising
said a [] c e = said_done (λ j q x. x)
said a (r ∷ rows) c e =
    let rest : rising (row_number r) rows ≡ true = and_right (ltb a (row_number r)) (rising (row_number r) rows) e in
    by_test r rows c (first_holds (holds_at r) (places_of r)) _ refl (λ j q. above (row_number r) rows j q rest) (said (row_number r) rows c rest)

-- ---- the table's answer is exact, and the only one that is

same_least : (rows : List Row) (k p j q : ℕ) → Least rows k p → Least rows j q → (k ≡ j) × (p ≡ q)
same_least rows k p j q x y = both (x.least j q y.applies) (y.least k p x.applies)
  where
    both : NotAfter k p j q → NotAfter j q k p → (k ≡ j) × (p ≡ q)
    both (number l) (number m) = absurd (omega arith)
    both (number l) (place e m) = absurd (omega arith)
    both (place e l) (number m) = absurd (omega arith)
    both (place e l) (place e' m) = (e, omega arith)

exact : (rows : List Row) (c : ℕ) {r : Answer} → rising 0 rows ≡ true → Said rows c r → Exactly rows c r
exact rows c rise (said_done n) =
    record { refuses = λ k p l. absurd (n k p l.applies); refused_by = λ h. absurd (h refl); grants = λ h. refl; granted_by = λ z. n }
exact rows c rise (least_of {k} {p} m) = record {
  refuses = λ j q l. let s = same_least rows k p j q m l in rw (s.0, s.1);
  refused_by = λ h. m;
  grants = λ h. absurd (h k p m.applies);
  granted_by = λ z. absurd (omega (arith, above 0 rows k p rise m.applies));
}

-- DEMAND 1, of every table: a call's theorem is this at its rows
pub exactly : (rows : List Row) (c : ℕ) → rising 0 rows ≡ true → Exactly rows c (answer_of rows c)
exactly rows c rise = exact rows c rise (said 0 rows c rise)

module _ {rows : List Row} {c : ℕ} {r : Answer} (x : Exactly rows c r) where
  -- "its count is 0"
  pub refusal : (r.number ≡ all_done → ⊥) → r ≡ refused r.number r.place
  refusal h = x.refuses r.number r.place (x.refused_by h)

  pub granted : r.number ≡ all_done → r ≡ done c
  granted z = x.grants (x.granted_by z)

-- no other answer is exact
pub only_exactly : {rows : List Row} {c : ℕ} {r s : Answer} → Exactly rows c r → Exactly rows c s → r ≡ s
only_exactly {rows} {c} {r} {s} x y = by (ℕ_discrete r.number all_done)
  where
    by : Dec (r.number ≡ all_done) → r ≡ s
    by (yes z) = granted x z ∙ sym (y.grants (x.granted_by z))
    by (no n) = refusal x n ∙ sym (y.refuses r.number r.place (x.refused_by n))

-- a call whose contract is its table meets demand 1, and demand 1 leaves it one answer and one content of lent memory
pub demand_1 : {B : Type 0} (rows : List Row) (c : ℕ) (new old : B) {r : Answer} {left : B} → rising 0 rows ≡ true
    → Outcome (answer_of rows c) (written (answer_of rows c) new old) r left → Demand1 rows c new old r left
demand_1 rows c new old {r} {left} rise o = record {
  exactly = rw o.told (exactly rows c rise);
  kept = λ h. o.kept ∙ written_refused (answer_of rows c) new old (λ z. h (ap (λ (x : Answer). x.number) o.told ∙ z));
  written = λ z. o.kept ∙ written_done (answer_of rows c) new old (ap (λ (x : Answer). x.number) (sym o.told) ∙ z);
}

pub only_demand_1 : {B : Type 0} {rows : List Row} {c : ℕ} {new old : B} {r s : Answer} {x y : B}
    → Demand1 rows c new old r x → Demand1 rows c new old s y → (r ≡ s) × (x ≡ y)
only_demand_1 {B} {rows} {c} {new} {old} {r} {s} {x} {y} d e = (same, by (ℕ_discrete r.number all_done))
  where
    same : r ≡ s
    same = only_exactly d.exactly e.exactly

    by : Dec (r.number ≡ all_done) → x ≡ y
    by (yes z) = d.written z ∙ sym (e.written (ap (λ (a : Answer). a.number) (sym same) ∙ z))
    by (no n) = d.kept n ∙ sym (e.kept (λ z. n (ap (λ (a : Answer). a.number) same ∙ z)))
