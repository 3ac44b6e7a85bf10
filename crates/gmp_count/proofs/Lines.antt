-- A part of the input as its line: the bytes before its first line feed are read on together. Assumes nothing.
use Prim.Native.Nat.{ℕ, zero, suc, ◌+◌, ◌-◌, ◌*◌, ◌≤◌, ◌<◌, min}
use mathlib.Core.Bool.{Bool, true, false, cond}
use mathlib.Core.Path.{◌≡◌, refl, sym, ap, ◌∙◌}
use mathlib.Core.List.{List, [], ◌∷◌}
use mathlib.Core.Logic.{⊎_elim}
use native.Mathlib.Nat.{add-zero, add-suc, eq-or-lt_of_le}
use native.Mathlib.Numerals.{add-one}
use native.Mathlib.Omega.{arith}
use borrow.Author.Tests.{lt-ltb, le-ltb}
use lib.Dec.{ltb, eqb, eqb-suc-zero}
use lib.ListN.{length, get_or, take, drop}
use Rattle.std.proofs.lemmas.List.{get_or-take, get_or-drop, length-take-le, length-drop, take_all}
use Rattle.std.specs.Prelude.{Option, Some, None}
use Rattle.std.specs.Option.{unwrap_or}
use Rattle.prelude.specs.Loops.{upto}
use Rattle.prelude.proofs.LoopLaws.{Folded, First, first_holds}
use Rattle.decimal.specs.Digits.{is_digit}
use Rattle.decimal.specs.Steps.{next_value, next_at}
use Rattle.sizes.specs.Sizes.{places}
use Rattle.gmp_count.specs.Count.{is_feed, first_length}
use Rattle.gmp_count.specs.Steps.{too_much, next_of, step_of, step_at, more_of, Unchanged}
use Rattle.gmp_count.specs.declared.Partial.{Partial}
use Rattle.gmp_count.proofs.Stepping.{step_ended}

-- ---- the number of a line

module _ (s : List ℕ) (a : Option ℕ) where
  -- nothing goes on from what is no number
  none_stays : (k m : ℕ) → upto (next_at too_much s) a k ≡ None → upto (next_at too_much s) a (k + m) ≡ None
  unfolding upto
  none_stays k zero e = rw add-zero e
  none_stays k (suc m) e = rw (add-suc k m, none_stays k m e)

  none_by : (k : ℕ) → k ≤ length s → upto (next_at too_much s) a k ≡ None → None ≡ upto (next_at too_much s) a (length s)
  none_by k h e =
      let q : k + (length s - k) ≡ length s = omega arith in
      sym (none_stays k (length s - k) e) ∙ ap (upto (next_at too_much s) a) q

-- where the code ends early
module _ (s : List ℕ) {a : Option ℕ} where
  pub no_number_kept : a ≡ None → None ≡ upto (next_at too_much s) a (length s)
  unfolding upto
  no_number_kept e = none_by s a 0 (omega arith) e

  pub none_from : {k v : ℕ} → Folded (next_at too_much s) a k (Some v) → k < length s → None ≡ next_value too_much v (get_or s k 0)
      → None ≡ upto (next_at too_much s) a (length s)
  unfolding upto
  none_from {k} {v} f h e = none_by s a (suc k) h (rw (← f.is) (sym e))

-- ---- bytes that leave the number as it is

pub unchanged_at_0 : (v : ℕ) (s : List ℕ) → Unchanged v s 0
unfolding upto
unchanged_at_0 v s = record { within = omega arith; is = refl }

module _ {v : ℕ} {s : List ℕ} {k : ℕ} (u : Unchanged v s k) (h : k < length s) where
  pub unchanged_more : Some v ≡ next_value too_much v (get_or s k 0) → Unchanged v s (k + 1)
  unfolding upto
  unchanged_more e = record { within = omega arith; is = rw (add-one, ← u.is) e }

  pub none_behind : None ≡ next_value too_much v (get_or s k 0) → None ≡ upto (next_at too_much s) (Some v) (length s)
  none_behind e = none_from s (record { is = u.is }) h e

-- a zero behind 0
pub zero_stays : {b : ℕ} → b ≡ 48 → Some 0 ≡ next_value too_much 0 b
unfolding next_value
zero_stays e = rw e refl

-- a digit above every count
pub above_stays : (b : ℕ) → true ≡ is_digit b → Some too_much ≡ next_value too_much too_much b
unfolding next_value
above_stays b e = rw (← e) (ap Some (omega arith))

pub above_ends : (b : ℕ) → false ≡ is_digit b → None ≡ next_value too_much too_much b
unfolding next_value
above_ends b e = rw (← e) refl

-- ---- the bytes behind k of them, read on

rest_at : (s : List ℕ) (k m : ℕ) (a : Option ℕ) → upto (next_at too_much (drop k s)) (upto (next_at too_much s) a k) m ≡ upto (next_at too_much s) a (k + m)
unfolding upto
rest_at s k zero a = rw add-zero refl
rest_at s k (suc m) a = rw (add-suc k m, rest_at s k m a) (same (upto (next_at too_much s) a (k + m)))
  where
    same : (x : Option ℕ) → next_at too_much (drop k s) m x ≡ next_at too_much s (k + m) x
    same None = refl
    same (Some v) = rw (get_or-drop k s m 0)

-- the bytes of s from k on
abbrev behind : List ℕ → ℕ → List ℕ
behind s k = take (length s - k) (drop k s)

behind_drop : (s : List ℕ) (k : ℕ) → behind s k ≡ drop k s
behind_drop s k = take_all (length s - k) (drop k s) (rw (length-drop k s) (omega arith))

rest_read : (s : List ℕ) (a : Option ℕ) {r : Option ℕ} {k v : ℕ} → k ≤ length s → Some v ≡ upto (next_at too_much s) a k
    → r ≡ upto (next_at too_much (behind s k)) (Some v) (length (behind s k)) → r ≡ upto (next_at too_much s) a (length s)
rest_read s a {r} {k} {v} h e p =
    let q : k + (length s - k) ≡ length s = omega arith in
    rw (p, behind_drop s k, e, length-drop k s, rest_at s k (length s - k) a, q) refl

pub rest_behind : (s : List ℕ) {a r : Option ℕ} {k v : ℕ} → a ≡ Some v → Unchanged v s k
    → r ≡ upto (next_at too_much (behind s k)) (Some v) (length (behind s k)) → r ≡ upto (next_at too_much s) a (length s)
rest_behind s {v = v} e u p = rw e (rest_read s (Some v) u.within u.is p)

-- from the largest count on, a byte more makes the same of each number
settled : (s : List ℕ) {v : ℕ} → places ≤ v → v ≤ too_much → (n : ℕ) → upto (next_at too_much s) (Some too_much) (suc n) ≡ upto (next_at too_much s) (Some v) (suc n)
unfolding upto next_value
settled s {v} l h zero = rw (le-ltb too_much v h) (by (is_digit (get_or s 0 0)))
  where
    by : (t : Bool) → cond t (Some (min (too_much * 10 + (get_or s 0 0 - 48)) too_much)) None ≡ cond t (Some (min (v * 10 + (get_or s 0 0 - 48)) too_much)) None
    by true = ap Some (omega arith)
    by false = refl
settled s l h (suc n) = ap (next_at too_much s (suc n)) (settled s l h n)

pub above_read : (s : List ℕ) (a : Option ℕ) {r : Option ℕ} {k v : ℕ} → Some v ≡ upto (next_at too_much s) a k → places ≤ v → v ≤ too_much → k < length s
    → r ≡ upto (next_at too_much (behind s k)) (Some too_much) (length (behind s k)) → r ≡ upto (next_at too_much s) a (length s)
above_read s a {k = k} e l h i p =
    let q : length (behind s k) ≡ suc (length s - suc k) = rw (behind_drop s k, length-drop k s) (omega arith) in
    rest_read s a (omega arith) e (rw (p, q) (settled (behind s k) l h (length s - suc k)))

-- the bytes of the line alone are read as the bytes of the part
in_front : (s : List ℕ) (n k : ℕ) (a : Option ℕ) → k ≤ n → upto (next_at too_much (take n s)) a k ≡ upto (next_at too_much s) a k
unfolding upto
in_front s n zero a h = refl
in_front s n (suc k) a h = rw (in_front s n k a (omega arith)) (same (upto (next_at too_much s) a k))
  where
    same : (v : Option ℕ) → next_at too_much (take n s) k v ≡ next_at too_much s k v
    same None = refl
    same (Some v) = rw (get_or-take n s k 0 h)

-- ---- a part of the input

module _ (s : List ℕ) (l : Partial) where
  abbrev ends : ℕ
  ends = first_length s

  first_feed : First (is_feed s) (length s) ends
  unfolding first_length
  first_feed = first_holds (is_feed s) (length s)

  -- the value with k bytes of the line behind it
  abbrev value_with : ℕ → Option (Option ℕ)
  value_with k = cond (eqb k 0) l.value (Some (upto (next_at too_much s) (unwrap_or l.value (Some 0)) k))

  value_or : (k : ℕ) → unwrap_or (value_with k) (Some 0) ≡ upto (next_at too_much s) (unwrap_or l.value (Some 0)) k
  unfolding upto
  value_or zero = refl
  value_or (suc k) = rw (eqb-suc-zero k)

  next_same : (v : Option ℕ) (k : ℕ) → next_of v (get_or s k 0) ≡ next_at too_much s k v
  next_same (Some v) k = refl
  next_same None k = refl

  -- behind the end of the line nothing counts
  pub nothing_counts : (k : ℕ) → l.ended ≡ true → l ≡ upto (step_at s) l k
  unfolding upto step_at
  nothing_counts zero e = refl
  nothing_counts (suc k) e = rw (← nothing_counts k e) (step_ended l (get_or s k 0) e)

  module _ (e : l.ended ≡ false) where
    before_feed : (k : ℕ) → k ≤ ends → upto (step_at s) l k ≡ record { value = value_with k; ended = false }
    unfolding upto step_at step_of
    before_feed zero h = ap (λ (t : Bool). record { value = l.value; ended = t }) e
    before_feed (suc k) h =
        rw (before_feed k (omega arith), first_feed.none k h, value_or k, next_same (upto (next_at too_much s) (unwrap_or l.value (Some 0)) k) k, eqb-suc-zero k)

    behind_feed : (k : ℕ) → ends < length s → upto (step_at s) l (suc (ends + k)) ≡ record { value = value_with ends; ended = true }
    unfolding upto step_at step_of
    behind_feed zero h = rw (add-zero ends, before_feed ends (omega arith), first_feed.here h)
    behind_feed (suc k) h = rw (add-suc ends k, behind_feed k h)

    -- THE PART: its line, and whether it holds the end of the line
    line_read : more_of l s ≡ record { value = value_with ends; ended = ltb ends (length s) }
    line_read = ⊎_elim no_feed with_feed (eq-or-lt_of_le first_feed.within)
      where
        no_feed : ends ≡ length s → more_of l s ≡ record { value = value_with ends; ended = ltb ends (length s) }
        no_feed p = rw (le-ltb ends (length s) (omega arith)) (ap (upto (step_at s) l) (sym p) ∙ before_feed ends (omega arith))

        with_feed : ends < length s → more_of l s ≡ record { value = value_with ends; ended = ltb ends (length s) }
        with_feed h =
            let q : suc (ends + (length s - suc ends)) ≡ length s = omega arith in
            rw (lt-ltb ends (length s) h) (ap (upto (step_at s) l) (sym q) ∙ behind_feed (length s - suc ends) h)

-- a part of one byte
pub one_byte : (l : Partial) (b : ℕ) → more_of l (b ∷ []) ≡ step_of l b
unfolding upto step_at
one_byte l b = refl

-- ---- the same of what the code's calls answered

line_within : (s : List ℕ) {n : ℕ} → n ≡ first_length s → n ≤ length s
unfolding first_length
line_within s e = rw e (first_holds (is_feed s) (length s)).within

pub line_taken : (s : List ℕ) {n : ℕ} → n ≡ first_length s → n ≡ length (take n s)
line_taken s {n} e = sym (length-take-le n s (line_within s e))

pub part_read : (s : List ℕ) (l : Partial) {n : ℕ} {v : Option (Option ℕ)} → l.ended ≡ false → n ≡ first_length s
    → v ≡ cond (eqb (length (take n s)) 0) l.value (Some (upto (next_at too_much (take n s)) (unwrap_or l.value (Some 0)) (length (take n s))))
    → record { value = v; ended = ltb n (length s) } ≡ more_of l s
part_read s l {n} {v} e p q =
    let w : first_length s ≤ length s = line_within s refl in
    rw (q, p, length-take-le (first_length s) s w, in_front s (first_length s) (first_length s) (unwrap_or l.value (Some 0)) (omega arith)) (sym (line_read s l e))
