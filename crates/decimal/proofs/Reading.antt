-- Bytes read one at a time are read as what they are together. Assumes nothing.
use Prim.Native.Nat.{ℕ, zero, suc, ◌+◌, ◌-◌, ◌*◌, ◌≤◌, min}
use mathlib.Core.Bool.{Bool, true, false, cond, ◌&&◌}
use mathlib.Core.Path.{◌≡◌, refl, sym, ap, ap₂, ◌∙◌}
use mathlib.Core.List.{List}
use Rattle.std.specs.Prelude.{Option, Some, None}
use native.Mathlib.Decide.{dec_le}
use native.Mathlib.Omega.{arith}
use borrow.Author.Tests.{le-ltb, ne_eqb}
use lib.Dec.{eqb, eqb-suc-suc}
use lib.ListN.{get_or}
use Rattle.prelude.specs.Loops.{upto, count}
use Rattle.prelude.proofs.Counting.{count_le}
use Rattle.decimal.specs.Digits.{is_digit, digit_at, all_digits, decimal}
use Rattle.decimal.specs.Steps.{seen, next_value, next_at}

-- ---- one byte more

all_step : (b : Bool) (c k : ℕ) → c ≤ k → eqb (cond b (suc c) c) (suc k) ≡ eqb c k && b
all_step true c k h = eqb-suc-suc c k ∙ sym (and_true (eqb c k))
  where
    and_true : (a : Bool) → a && true ≡ a
    and_true true = refl
    and_true false = refl
all_step false c k h = ne_eqb c (suc k) (λ e. omega arith) ∙ sym (and_false (eqb c k))
  where
    and_false : (a : Bool) → a && false ≡ false
    and_false true = refl
    and_false false = refl

digits_more : (s : List ℕ) (k : ℕ) → all_digits s (suc k) ≡ all_digits s k && digit_at s k
unfolding all_digits count
digits_more s k = all_step (digit_at s k) (count (digit_at s) k) k (count_le (digit_at s) k)

decimal_more : (s : List ℕ) (k : ℕ) → decimal s (suc k) ≡ decimal s k * 10 + (get_or s k 0 - 48)
unfolding decimal upto
decimal_more s k = refl

module _ (m : ℕ) where
  -- byte k of s behind what was seen of the bytes before it
  seen_more : (s : List ℕ) (k : ℕ) (d : Bool) (v : ℕ)
      → next_at m s k (seen m d v) ≡ seen m (d && is_digit (get_or s k 0)) (v * 10 + (get_or s k 0 - 48))
  unfolding next_value seen
  seen_more s k false v = refl
  seen_more s k true v = rw (le-ltb m (min v m) (omega arith)) (by (is_digit (get_or s k 0)))
    where
      by : (t : Bool) → cond t (Some (min (min v m * 10 + (get_or s k 0 - 48)) m)) None ≡ cond t (Some (min (v * 10 + (get_or s k 0 - 48)) m)) None
      by true = ap Some (omega arith)
      by false = refl

  -- ---- so many bytes

  abbrev pub read : List ℕ → ℕ → Option ℕ
  read s k = seen m (all_digits s k) (decimal s k)

  pub read_none : (s : List ℕ) → Some 0 ≡ read s 0
  unfolding seen all_digits count decimal upto
  read_none s = ap Some (omega arith)

  pub read_more : (s : List ℕ) (k : ℕ) → next_at m s k (read s k) ≡ read s (suc k)
  read_more s k = seen_more s k (all_digits s k) (decimal s k) ∙ ap₂ (seen m) (sym (digits_more s k)) (sym (decimal_more s k))

  -- WHAT IS READ of k bytes
  pub read_all : (s : List ℕ) (k : ℕ) → upto (next_at m s) (Some 0) k ≡ read s k
  unfolding upto
  read_all s zero = read_none s
  read_all s (suc k) = rw (read_all s k) (read_more s k)

  -- bytes of which not all are digits stay that, however many follow
  pub read_stays : (s : List ℕ) (k : ℕ) → read s k ≡ None → (n : ℕ) → k ≤ n → read s n ≡ None
  read_stays s k e zero h = let z : k ≡ 0 = omega arith in rw (← z) e
  read_stays s k e (suc n) h = by (dec_le k n) (read_stays s k e n)
    where
      by : Dec (k ≤ n) → (k ≤ n → read s n ≡ None) → read s (suc n) ≡ None
      by (yes l) stays = rw (← read_more s n, stays l) refl
      by (no l) stays = let z : k ≡ suc n = omega arith in rw (← z) e
