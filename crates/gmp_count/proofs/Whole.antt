-- The input read byte by byte gives the count of its first line; read in parts it gives the same. Assumes nothing.
use Prim.Native.Nat.{ℕ, zero, suc, ◌+◌, ◌-◌, ◌≤◌, ◌<◌, min}
use mathlib.Core.Bool.{Bool, true, false, cond, not, ◌||◌}
use mathlib.Core.Path.{◌≡◌, refl, sym, ap, ◌∙◌}
use mathlib.Core.List.{List, ◌++◌}
use mathlib.Core.Logic.{⊎_elim}
use native.Mathlib.Nat.{add-zero, add-suc, eq-or-lt_of_le}
use native.Mathlib.Omega.{arith}
use borrow.Author.Tests.{ltb-true, ltb-false, lt-ltb, le-ltb}
use lib.Dec.{ltb, eqb, eqb-suc-zero}
use lib.ListN.{length, length-append, get_or-append}
use lib.Seq.{get_or-append-add}
use Rattle.std.specs.Prelude.{Option, Some, None, get_or}
use Rattle.std.specs.Option.{unwrap_or, option_flatten}
use Rattle.prelude.specs.Loops.{upto}
use Rattle.prelude.proofs.LoopLaws.{First, first_holds}
use Rattle.answer.specs.Numbers.{outside_set}
use Rattle.answer.specs.Rows.{done, refused}
use Rattle.answer.specs.Steps.{in_turn, row_then}
use Rattle.answer.specs.declared.Answer.{Answer}
use Rattle.answer.proofs.Turns.{in_turn_law}
use Rattle.decimal.specs.Digits.{all_digits, decimal}
use Rattle.decimal.specs.Steps.{seen, next_at}
use Rattle.decimal.proofs.Reading.{read, read_none, read_more}
use Rattle.sizes.specs.Sizes.{places}
use Rattle.gmp_count.specs.Count.{is_feed, first_length, no_count, count_of}
use Rattle.gmp_count.specs.Steps.{too_much, nothing_read, next_of, step_of, step_at, more_of, told_as_count, so_far}
use Rattle.gmp_count.specs.declared.Partial.{Partial}

-- ---- within the line

module _ (s : List ℕ) where
  abbrev n : ℕ
  n = first_length s

  feed_first : First (is_feed s) (length s) n
  unfolding first_length
  feed_first = first_holds (is_feed s) (length s)

  -- what k bytes of the line are: nothing where there are none
  abbrev number : ℕ → Option (Option ℕ)
  number k = cond (ltb 0 k) (Some (read too_much s k)) None

  number_or : (k : ℕ) → unwrap_or (number k) (Some 0) ≡ read too_much s k
  number_or zero = read_none too_much s
  number_or (suc k) = rw (lt-ltb 0 (suc k) (omega arith))

  next_read : (v : Option ℕ) (k : ℕ) → next_of v (get_or s k 0) ≡ next_at too_much s k v
  next_read (Some v) k = refl
  next_read None k = refl

  -- after k bytes of the line
  within : (k : ℕ) → k ≤ n → upto (step_at s) nothing_read k ≡ record { value = number k; ended = false }
  unfolding upto step_at step_of
  within zero h = refl
  within (suc k) h =
      rw (within k (omega arith), feed_first.none k h, number_or k, next_read (read too_much s k) k, read_more too_much s k, lt-ltb 0 (suc k) (omega arith))

  -- after the line feed nothing counts
  behind : (k : ℕ) → n < length s → upto (step_at s) nothing_read (suc (n + k)) ≡ record { value = number n; ended = true }
  unfolding upto step_at step_of
  behind zero h = rw (add-zero n, within n (omega arith), feed_first.here h)
  behind (suc k) h = rw (add-suc n k, behind k h)

  -- what is kept of the whole input
  pub kept : (more_of nothing_read s).value ≡ number n
  kept = ⊎_elim at_end past (eq-or-lt_of_le feed_first.within)
    where
      by : (ended : Bool) → more_of nothing_read s ≡ record { value = number n; ended = ended } → (more_of nothing_read s).value ≡ number n
      by ended w = ap (λ (l : Partial). l.value) w

      at_end : n ≡ length s → (more_of nothing_read s).value ≡ number n
      at_end e = by false (ap (upto (step_at s) nothing_read) (sym e) ∙ within n (omega arith))

      past : n < length s → (more_of nothing_read s).value ≡ number n
      past h =
          let e : suc (n + (length s - suc n)) ≡ length s = omega arith in
          by true (ap (upto (step_at s) nothing_read) (sym e) ∙ behind (length s - suc n) h)

-- ---- the answer

count_chain : (s : List ℕ) → count_of s ≡ cond (no_count s (first_length s)) (refused outside_set 0) (done (decimal s (first_length s)))
unfolding count_of in_turn row_then
count_chain s = in_turn_law _ _

-- an empty line, one with a byte that is no digit, one above every count, and a count
module _ (v : ℕ) where
  above : (t : Bool) → ltb places (min v too_much) ≡ t
      → cond t (refused outside_set 0) (done (min v too_much)) ≡ cond (ltb places v) (refused outside_set 0) (done v)
  above true e = rw (lt-ltb places v (omega (arith, ltb-true places (min v too_much) e)))
  above false e =
      let l : min v too_much ≤ places = ltb-false places (min v too_much) e in
      let m : min v too_much ≡ v = omega arith in
      rw (le-ltb places v (omega arith), m)

  same_verdict : (n : ℕ) (d : Bool)
      → told_as_count (option_flatten (cond (ltb 0 n) (Some (seen too_much d v)) None)) ≡ cond (eqb n 0 || (not d || ltb places v)) (refused outside_set 0) (done v)
  unfolding seen
  same_verdict zero d = refl
  same_verdict (suc n) false = rw (eqb-suc-zero n, lt-ltb 0 (suc n) (omega arith))
  same_verdict (suc n) true = rw (eqb-suc-zero n, lt-ltb 0 (suc n) (omega arith)) (above (ltb places (min v too_much)) refl)

-- THE COUNT: what was read of the whole input is the count of its first line
pub read_whole : (s : List ℕ) → so_far (more_of nothing_read s) ≡ count_of s
unfolding so_far
read_whole s = rw (kept s, count_chain s) (same_verdict (decimal s (first_length s)) (first_length s) (all_digits s (first_length s)))

-- the same of what the code's three calls answered
pub read_by : (s : List ℕ) {l m : Partial} {a : Answer} → l ≡ nothing_read → m ≡ more_of l s → a ≡ so_far m → a ≡ count_of s
read_by s p q e = e ∙ rw (q, p) (read_whole s)

-- bytes of a, and then of b, are bytes of both together
module _ (l : Partial) (a b : List ℕ) where
  in_first : (k : ℕ) → k ≤ length a → upto (step_at a) l k ≡ upto (step_at (a ++ b)) l k
  unfolding upto step_at
  in_first zero h = refl
  in_first (suc k) h = rw (in_first k (omega arith), get_or-append a b 0 k h)

  in_second : (k : ℕ) → upto (step_at b) (upto (step_at a) l (length a)) k ≡ upto (step_at (a ++ b)) l (length a + k)
  unfolding upto step_at
  in_second zero = rw add-zero (in_first (length a) (omega arith))
  in_second (suc k) = rw (add-suc, in_second k, get_or-append-add a b k 0)

  -- IN PARTS: a, and then b, is a and b together
  pub in_parts : more_of (more_of l a) b ≡ more_of l (a ++ b)
  in_parts = in_second (length b) ∙ ap (upto (step_at (a ++ b)) l) (sym (length-append a b))
