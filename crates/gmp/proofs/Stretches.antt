-- A run is a longest stretch of one kind: what `last_of_run` and `runs_from` mean, and that nothing else means it. Assumes nothing.
use Prim.Native.Nat.{ℕ, zero, suc, ◌+◌, ◌-◌, ◌≤◌, ◌<◌}
use mathlib.Core.Bool.{Bool, true, false, cond, not, beq}
use mathlib.Core.Path.{◌≡◌, refl, sym, ap, ◌∙◌}
use mathlib.Core.Logic.{⊎_elim}
use native.Mathlib.Nat.{add-zero, add-suc, eq-or-lt_of_le, lt_of_not-le}
use native.Mathlib.Decide.{dec_le}
use native.Mathlib.Omega.{arith}
use Rattle.prelude.specs.Loops.{first, count}
use Rattle.prelude.proofs.LoopLaws.{First, first_holds, first_is, first_none}
use Rattle.prelude.proofs.Counting.{count_ext, count_none, count_add, count_le}
use Rattle.prelude.proofs.Common.{clash}
use Rattle.gmp.specs.Places.{is_data}
use Rattle.sizes.specs.Sizes.{places}
use Rattle.gmp.specs.Runs.{changes, last_of_run, runs_from, EndsRun}

-- ---- small laws

-- b is the other of a where t says so
abbrev pub negated_if : Bool → Bool → Bool
negated_if t a = cond t (not a) a

beq_negated : (a t : Bool) → not (beq a (negated_if t a)) ≡ t
beq_negated true true = refl
beq_negated true false = refl
beq_negated false true = refl
beq_negated false false = refl

negated_beq : (a b : Bool) → b ≡ negated_if (not (beq a b)) a
negated_beq true true = refl
negated_beq true false = refl
negated_beq false true = refl
negated_beq false false = refl

not_self : (a : Bool) → a ≡ not a → ⊥
not_self true e = clash refl e
not_self false e = clash e refl

-- the first that a test picks is the only number of which that can be said
first_only : (p : ℕ → Bool) (n k : ℕ) → First p n k → first p n ≡ k
first_only p n k f = ⊎_elim (λ e. rw e (first_none p n (λ i l. f.none i (rw e l)))) (λ l. first_is p k n f.none l (f.here l)) (eq-or-lt_of_le f.within)

module _ (c j k : ℕ) (t : Bool) where
  changes_is : is_data c (suc (j + k)) ≡ negated_if t (is_data c (j + k)) → changes c j k ≡ t
  unfolding changes
  changes_is e = rw e (beq_negated (is_data c (j + k)) t)

  changes_says : changes c j k ≡ t → is_data c (suc (j + k)) ≡ negated_if t (is_data c (j + k))
  unfolding changes
  changes_says e = negated_beq (is_data c (j + k)) (is_data c (suc (j + k))) ∙ ap (λ (x : Bool). negated_if x (is_data c (j + k))) e

-- ---- a run's end is the first change

-- no change before the end, and one at the end
ends_first : (c j l : ℕ) → EndsRun c j l → First (changes c j) (places - j) (l - j)
ends_first c j l e =
    record {
      within = omega (arith, e.from, e.to);
      none = λ i h. changes_is c j i false (e.same (suc (j + i)) (omega arith) (omega arith) ∙ sym (e.same (j + i) (omega arith) (omega arith)));
      here = λ h.
          let b : j + (l - j) ≡ l = omega (arith, e.from) in
          changes_is c j (l - j) true (rw b (e.other (omega arith) ∙ ap not (sym (e.same l e.from (omega arith)))));
    }

-- ONLY THAT: the last place of a longest stretch from j on is j's
pub ends_last : (c j l : ℕ) → EndsRun c j l → l ≡ last_of_run c j
unfolding last_of_run
ends_last c j l e = rw (first_only (changes c j) (places - j) (l - j) (ends_first c j l e)) (omega (arith, e.from))

-- up to the first change all are of j's kind
alike : (c j n : ℕ) → First (changes c j) (places - j) n → (k : ℕ) → k ≤ n → is_data c (j + k) ≡ is_data c j
alike c j n f zero h = rw add-zero
alike c j n f (suc k) h = rw add-suc (changes_says c j k false (f.none k h) ∙ alike c j n f k (omega arith))

-- a run, from what its places say, counted from j
pub ends_by : (c j n : ℕ) (b : Bool) → j + n ≤ places → ((k : ℕ) → k ≤ n → is_data c (j + k) ≡ b) → (j + n < places → is_data c (suc (j + n)) ≡ not b)
    → EndsRun c j (j + n)
ends_by c j n b h all behind =
    let here : is_data c j ≡ b = rw add-zero at (all 0 (omega arith)) in
    record {
      from = omega arith;
      to = h;
      same = λ k a l. let e : j + (k - j) ≡ k = omega arith in ap (is_data c) (sym e) ∙ all (k - j) (omega arith) ∙ sym here;
      other = λ l. behind l ∙ ap not (sym here);
    }

first_ends : (c j n : ℕ) → j ≤ places → First (changes c j) (places - j) n → EndsRun c j (j + n)
first_ends c j n h f =
    ends_by c j n (is_data c j) (omega (arith, f.within)) (alike c j n f)
    (λ l. changes_says c j n true (f.here (omega arith)) ∙ ap not (alike c j n f n (omega arith)))

-- A RUN IS A LONGEST STRETCH: from j to the last place of its run all are of j's kind, and the place behind is not
pub last_ends : (c j : ℕ) → j ≤ places → EndsRun c j (last_of_run c j)
unfolding last_of_run
last_ends c j h = first_ends c j (first (changes c j) (places - j)) h (first_holds (changes c j) (places - j))

-- no stretch of j's kind from j on goes further
pub no_longer : (c j b : ℕ) → j ≤ b → b ≤ places → ((k : ℕ) → j ≤ k → k ≤ b → is_data c k ≡ is_data c j) → b ≤ last_of_run c j
no_longer c j b h l same = by (dec_le b (last_of_run c j))
  where
    e : EndsRun c j (last_of_run c j)
    e = last_ends c j (omega arith)

    by : Dec (b ≤ last_of_run c j) → b ≤ last_of_run c j
    by (yes a) = a
    by (no n) =
        let a : last_of_run c j < b = lt_of_not-le n in
        absurd (not_self (is_data c j) (sym (same (suc (last_of_run c j)) (omega (arith, e.from)) a) ∙ e.other (omega arith)))

-- ---- counting runs

-- the changes behind l, counted from j and from the place behind l
stretch_shifted : (c j l k : ℕ) → j ≤ l → changes c j (l - j + (1 + k)) ≡ changes c (suc l) k
unfolding changes
stretch_shifted c j l k h = let e : j + (l - j + (1 + k)) ≡ suc l + k = omega arith in rw e

-- the last run of all
pub runs_last : (c j : ℕ) → EndsRun c j places → runs_from c j ≡ 1
unfolding runs_from
runs_last c j e = ap suc (count_none (changes c j) (places - j) (ends_first c j places e).none)

count_one : (p : ℕ → Bool) → p 0 ≡ true → count p 1 ≡ 1
unfolding count
count_one p e = rw e

-- a run that ends before the last place: one more than from the place behind it
pub runs_more : (c j l : ℕ) → EndsRun c j l → l < places → runs_from c j ≡ suc (runs_from c (suc l))
unfolding runs_from
runs_more c j l e h =
    let f : First (changes c j) (places - j) (l - j) = ends_first c j l e in
    let p = changes c j in
    let q : ℕ → Bool = λ k. changes c j (l - j + k) in
    let m = places - suc l in
    let n : places - j ≡ l - j + (1 + m) = omega (arith, e.from) in
    let all : count p (places - j) ≡ count p (l - j) + count q (1 + m) = ap (count p) n ∙ count_add p (l - j) (1 + m) in
    let none : count p (l - j) ≡ 0 = count_none p (l - j) f.none in
    let here : count q 1 ≡ 1 = count_one q (ap p (add-zero (l - j)) ∙ f.here (omega (arith, e.from))) in
    let rest : count (λ k. q (1 + k)) m ≡ count (changes c (suc l)) m = count_ext (λ k. q (1 + k)) (changes c (suc l)) m (λ k i. stretch_shifted c j l k e.from) in
    omega (arith, all, none, here, rest, count_add q 1 m)

-- at most one for each place
pub runs_few : (c j : ℕ) → runs_from c j ≤ suc places
unfolding runs_from
runs_few c j = omega (arith, count_le (changes c j) (places - j))
