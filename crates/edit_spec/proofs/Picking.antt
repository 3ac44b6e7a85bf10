-- The laws of `picked`, and two laws of `count`: how many a test picks, from a numbering of those that it picks. Assumes nothing.
use Prim.Native.Nat.{ℕ, zero, suc, ◌+◌, ◌-◌, ◌≤◌, ◌<◌}
use mathlib.Core.Bool.{Bool, true, false, cond, not, ◌&&◌, and-true, and-false}
use mathlib.Core.Path.{◌≡◌, refl, sym, ap, ◌∙◌}
use mathlib.Core.List.{List, [], ◌∷◌, ◌++◌, append-nil, append_assoc}
use mathlib.Core.Logic.{⊎_elim}
use native.Mathlib.Nat.{not-suc-le-zero, le_of_suc-le-suc, eq-or-lt_of_le}
use native.Mathlib.Decide.{ℕ_discrete, dec_lt}
use native.Mathlib.Omega.{arith}
use borrow.Author.Tests.{eq-eqb, ne_eqb}
use lib.Dec.{eqb}
use lib.ListN.{length, get_or, set, drop, length-append, get_or-append}
use lib.Seq.{drop-cons, set_at, get_or_at}
use Rattle.prelude.specs.Loops.{count}
use Rattle.prelude.proofs.Counting.{count_ext, count_add, count_none}
use Rattle.prelude.proofs.Common.{clash, and_left}
use Rattle.edit_spec.specs.Edit.{picked}

-- ---- entries

pub length-picked : (p : ℕ → Bool) (n : ℕ) → length (picked p n) ≡ count p n
unfolding picked count
length-picked p zero = refl
length-picked p (suc n) = by (p n) (length-picked p n)
  where
    by : (x : Bool) → length (picked p n) ≡ count p n → length (picked p n ++ cond x (n ∷ []) []) ≡ cond x (suc (count p n)) (count p n)
    by true e = rw (length-append (picked p n) (n ∷ []), e) (omega arith)
    by false e = rw (append-nil (picked p n)) e

-- one number more
pub picked_yes : (p : ℕ → Bool) (n : ℕ) → p n ≡ true → picked p (suc n) ≡ picked p n ++ (n ∷ [])
unfolding picked
picked_yes p n e = rw e

pub picked_no : (p : ℕ → Bool) (n : ℕ) → p n ≡ false → picked p (suc n) ≡ picked p n
unfolding picked
picked_no p n e = rw e (append-nil (picked p n))

pub count_yes : (p : ℕ → Bool) (n : ℕ) → p n ≡ true → count p (suc n) ≡ suc (count p n)
unfolding count
count_yes p n e = rw e

pub count_no : (p : ℕ → Bool) (n : ℕ) → p n ≡ false → count p (suc n) ≡ count p n
unfolding count
count_no p n e = rw e

pub count_mono : (p : ℕ → Bool) (a b : ℕ) → a ≤ b → count p a ≤ count p b
count_mono p a b h =
    let e : b ≡ a + (b - a) = omega arith in
    rw e (omega (arith, count_add p a (b - a)))

-- x is the number of rank i that p picks below n
pub record Ranked (p : ℕ → Bool) (n i x : ℕ) : Type 0 where
  pub below : x < n
  pub picks : p x ≡ true
  pub rank : count p x ≡ i

-- entry i of the list
pub picked_entry : (p : ℕ → Bool) (n i : ℕ) → i < count p n → Ranked p n i (get_or (picked p n) i 0)
unfolding count
picked_entry p zero i h = absurd (not-suc-le-zero h)
picked_entry p (suc n) i h = by (p n) refl h (picked_entry p n i)
  where
    more : {x : ℕ} → Ranked p n i x → Ranked p (suc n) i x
    more r = record { below = omega (arith, r.below); picks = r.picks; rank = r.rank }

    early : p n ≡ true → i < count p n → Ranked p n i (get_or (picked p n) i 0) → Ranked p (suc n) i (get_or (picked p (suc n)) i 0)
    early e l r = rw (picked_yes p n e, get_or-append (picked p n) (n ∷ []) 0 i (rw (length-picked p n) l)) (more r)

    last : p n ≡ true → i ≡ count p n → Ranked p (suc n) i (get_or (picked p (suc n)) i 0)
    last e q =
        rw (picked_yes p n e, get_or_at (picked p n) n [] 0 i (length-picked p n ∙ sym q))
        (record { below = omega arith; picks = e; rank = sym q })

    by : (x : Bool) → p n ≡ x → i < cond x (suc (count p n)) (count p n) → (i < count p n → Ranked p n i (get_or (picked p n) i 0))
        → Ranked p (suc n) i (get_or (picked p (suc n)) i 0)
    by true e l r = ⊎_elim (λ q. last e (omega arith)) (λ m. early e (le_of_suc-le-suc m) (r (le_of_suc-le-suc m))) (eq-or-lt_of_le l)
    by false e l r = rw (picked_no p n e) (more (r l))

-- they rise
pub picked_rises : (p : ℕ → Bool) (n i j : ℕ) → i < j → j < count p n → get_or (picked p n) i 0 < get_or (picked p n) j 0
picked_rises p n i j h l =
    by (get_or (picked p n) i 0) (get_or (picked p n) j 0) (picked_entry p n i (omega arith)) (picked_entry p n j l)
    (dec_lt (get_or (picked p n) i 0) (get_or (picked p n) j 0))
  where
    by : (x y : ℕ) → Ranked p n i x → Ranked p n j y → Dec (x < y) → x < y
    by x y a b (yes k) = k
    by x y a b (no k) = absurd (omega (arith, a.rank, b.rank, count_mono p y x (omega arith)))

-- two numbers of one rank are the same
same_rank : (p : ℕ → Bool) (n i x y : ℕ) → Ranked p n i x → Ranked p n i y → x ≡ y
same_rank p n i x y a b = by (dec_lt x y) (dec_lt y x)
  where
    less : (x y : ℕ) → Ranked p n i x → Ranked p n i y → x < y → ⊥
    less x y a b l = let e = count_yes p x a.picks in let m = count_mono p (suc x) y l in omega (arith, a.rank, b.rank)

    by : Dec (x < y) → Dec (y < x) → x ≡ y
    by (yes l) d = absurd (less x y a b l)
    by (no k) (yes l) = absurd (less y x b a l)
    by (no k) (no l) = omega arith

-- each number that p picks is there, at its rank
pub picked_room : (p : ℕ → Bool) (n x : ℕ) → x < n → p x ≡ true → count p x < count p n
picked_room p n x h e = omega (arith, count_yes p x e, count_mono p (suc x) n h)

pub picked_has : (p : ℕ → Bool) (n x : ℕ) → x < n → p x ≡ true → get_or (picked p n) (count p x) 0 ≡ x
picked_has p n x h e =
    same_rank p n (count p x) (get_or (picked p n) (count p x) 0) x (picked_entry p n (count p x) (picked_room p n x h e))
    (record { below = h; picks = e; rank = refl })

-- the next number that p picks becomes the next entry of a list that the picked ones fill from the front
pub picked_set : (p : ℕ → Bool) (n : ℕ) (s : List ℕ) → p n ≡ true → count p n < length s
    → set (picked p n ++ drop (count p n) s) (count p n) n ≡ picked p (suc n) ++ drop (count p (suc n)) s
picked_set p n s e h =
    ap (λ (d : List ℕ). set (picked p n ++ d) (count p n) n) (drop-cons s (count p n) 0 h)
    ∙ set_at (picked p n) (get_or s (count p n) 0) (drop (suc (count p n)) s) n (count p n) (length-picked p n)
    ∙ rw (picked_yes p n e, count_yes p n e) (sym (append_assoc (picked p n) (n ∷ []) (drop (suc (count p n)) s)))

-- ---- how many there are

-- w is one of s 0, .., s (k - 1)
pub record In (s : ℕ → ℕ) (k w : ℕ) : Type 0 where
  pub index : ℕ
  pub within : index < k
  pub is : w ≡ s index

-- p, but not at x
unfoldable without : (ℕ → Bool) → ℕ → ℕ → Bool
without p x w = p w && not (eqb w x)

without_other : (p : ℕ → Bool) (x w : ℕ) → (w ≡ x → ⊥) → without p x w ≡ p w
unfolding without
without_other p x w h = rw (ne_eqb w x h) (and-true (p w))

without_here : (p : ℕ → Bool) (x : ℕ) → without p x x ≡ false
unfolding without
without_here p x = rw (eq-eqb x x refl) (and-false (p x))

without_true : (p : ℕ → Bool) (x w : ℕ) → without p x w ≡ true → (p w ≡ true) × (w ≡ x → ⊥)
unfolding without
without_true p x w e =
    (and_left (p w) (not (eqb w x)) e, λ q. clash e (ap (λ (y : ℕ). without p x y) q ∙ without_here p x))

count_before : (p : ℕ → Bool) (x n : ℕ) → n ≤ x → count (without p x) n ≡ count p n
count_before p x n h = count_ext (without p x) p n (λ k l. without_other p x k (λ q. not-suc-le-zero {n = 0} (omega arith)))

cond_le : (b : Bool) (c d : ℕ) → c ≤ suc d → cond b (suc c) c ≤ suc (cond b (suc d) d)
cond_le true c d h = omega arith
cond_le false c d h = h

cond-suc : (b : Bool) (c d : ℕ) → c ≡ suc d → cond b (suc c) c ≡ suc (cond b (suc d) d)
cond-suc true c d h = omega arith
cond-suc false c d h = h

-- one less, at most
count_less : (p : ℕ → Bool) (x n : ℕ) → count p n ≤ suc (count (without p x) n)
unfolding count
count_less p x zero = omega arith
count_less p x (suc n) = by (ℕ_discrete n x) (count_less p x n)
  where
    at : (b : Bool) (c : ℕ) → cond b (suc c) c ≤ suc c
    at true c = omega arith
    at false c = omega arith

    by : Dec (n ≡ x) → count p n ≤ suc (count (without p x) n) → cond (p n) (suc (count p n)) (count p n) ≤ suc
        (cond (without p x n) (suc (count (without p x) n)) (count (without p x) n))
    by (yes q) h = rw (← q, without_here p n, count_before p n n (omega arith)) (at (p n) (count p n))
    by (no k) h = rw (without_other p x n k) (cond_le (p n) (count p n) (count (without p x) n) h)

-- exactly one less, where p picks x
count_one_less : (p : ℕ → Bool) (x n : ℕ) → x < n → p x ≡ true → count p n ≡ suc (count (without p x) n)
unfolding count
count_one_less p x zero h e = absurd (not-suc-le-zero h)
count_one_less p x (suc n) h e = by (ℕ_discrete n x) (λ l. count_one_less p x n l e)
  where
    by : Dec (n ≡ x) → (x < n → count p n ≡ suc (count (without p x) n))
        → cond (p n) (suc (count p n)) (count p n) ≡ suc (cond (without p x n) (suc (count (without p x) n)) (count (without p x) n))
    by (yes q) r = rw (q, e, without_here p x, count_before p x x (omega arith))
    by (no k) r = rw (without_other p x n k) (cond-suc (p n) (count p n) (count (without p x) n) (r (omega arith)))

-- a test that picks at most s 0, .., s (k - 1) picks at most k
pub count_few : (s : ℕ → ℕ) (k : ℕ) (p : ℕ → Bool) (n : ℕ) → ((w : ℕ) → p w ≡ true → In s k w) → count p n ≤ k
count_few s zero p n h = omega (arith, count_none p n (λ w l. no_one (p w) refl (h w)))
  where
    no_one : {w : ℕ} (b : Bool) → p w ≡ b → (p w ≡ true → In s 0 w) → p w ≡ false
    no_one true e g = absurd (not-suc-le-zero (g e).within)
    no_one false e g = e
count_few s (suc k) p n h =
    omega (
      arith,
      count_less p (s k) n,
      count_few s k (without p (s k)) n
          (λ w e. let d = without_true p (s k) w e in let r = h w d.0 in
          record {
            index = r.index;
            within = ⊎_elim (λ q. absurd (d.1 (r.is ∙ ap s (low q)))) (λ l. le_of_suc-le-suc l)
                (eq-or-lt_of_le r.within);
            is = r.is;
          }),
    )
  where
    low : {a b : ℕ} → suc a ≡ suc b → a ≡ b
    low q = omega arith

-- a test that picks the different numbers s 0, .., s (k - 1) below n picks at least k
pub count_many : (s : ℕ → ℕ) (k : ℕ) (p : ℕ → Bool) (n : ℕ) → ((i : ℕ) → i < k → (s i < n) × (p (s i) ≡ true)) → ((i j : ℕ) → i < j → j < k → s i ≡ s j → ⊥)
    → k ≤ count p n
count_many s zero p n h g = omega arith
count_many s (suc k) p n h g =
    omega (
      arith,
      count_one_less p (s k) n (h k (omega arith)).0 (h k (omega arith)).1,
      count_many s k (without p (s k)) n
          (λ i l. ((h i (omega arith)).0, without_other p (s k) (s i) (g i k l (omega arith)) ∙ (h i (omega arith)).1))
          (λ i j l m. g i j l (omega arith)),
    )
