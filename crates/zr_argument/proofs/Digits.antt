-- An argument read byte by byte is the number that its digits are. Assumes nothing.
use Prim.Native.Nat.{ℕ, suc, ◌+◌, ◌≤◌, ◌<◌, min}
use mathlib.Core.Bool.{Bool, true, false, cond, not}
use mathlib.Core.Path.{◌≡◌, refl, sym, ap, ◌∙◌}
use mathlib.Core.List.{List}
use native.Mathlib.Omega.{arith}
use borrow.Author.Tests.{eq-eqb, ne_eqb}
use lib.ListN.{length, get_or}
use lib.Dec.{eqb}
use Rattle.std.specs.Prelude.{Some, None}
use Rattle.decimal.specs.Digits.{all_digits, decimal}
use Rattle.decimal.specs.Steps.{seen, next_value}
use Rattle.decimal.proofs.Reading.{read, read_none, read_more, read_stays}
use Rattle.zr_argument.specs.Numbers.{most, number_of}

-- the first k bytes were read as v
pub record Read (s : List ℕ) (k v : ℕ) : Type 0 where
  pub within : k ≤ length s
  pub is : read most s k ≡ Some v

pub nothing : (s : List ℕ) → Read s 0 0
nothing s = record { within = omega arith; is = sym (read_none most s) }

module _ (s : List ℕ) where
  pub not_empty : length s ≡ 0 → None ≡ number_of s
  unfolding number_of
  not_empty e = rw (eq-eqb (length s) 0 e)

  -- what is read of all bytes, of which there are some
  whole : eqb (length s) 0 ≡ false → read most s (length s) ≡ number_of s
  unfolding number_of seen
  whole some = rw some (by (all_digits s (length s)))
    where
      by : (t : Bool) → cond t (Some (min (decimal s (length s)) most)) None ≡ cond (not t) None (Some (min (decimal s (length s)) most))
      by true = refl
      by false = refl

  module _ (k v : ℕ) (r : Read s k v) where
    pub one_more : (w : ℕ) → k < length s → Some w ≡ next_value most v (get_or s k 0) → Read s (k + 1) w
    one_more w h e =
        let p : k + 1 ≡ suc k = omega arith in
        record { within = omega arith; is = rw (p, ← read_more most s k, r.is, ← e) refl }

    pub no_digit : k < length s → None ≡ next_value most v (get_or s k 0) → None ≡ number_of s
    no_digit h e =
        let n : read most s (suc k) ≡ None = rw (← read_more most s k, r.is, ← e) refl in
        sym (read_stays most s (suc k) n (length s) (omega arith)) ∙ whole (ne_eqb (length s) 0 (λ z. omega arith))

    pub all_read : eqb (length s) 0 ≡ false → length s ≤ k → Some v ≡ number_of s
    all_read some h = let p : k ≡ length s = omega (arith, r.within) in sym r.is ∙ ap (read most s) p ∙ whole some
