-- The laws of `count`. Assumes nothing.
use Prim.Native.Nat.{ℕ, zero, suc, ◌+◌, ◌≤◌, ◌<◌}
use mathlib.Core.Bool.{Bool, true, false, cond}
use mathlib.Core.Path.{◌≡◌, refl, ap, ◌∙◌}
use native.Mathlib.Nat.{add-zero, add-suc}
use native.Mathlib.Numerals.{add-one}
use native.Mathlib.Omega.{arith}
use Rattle.prelude.specs.Loops.{count}

-- two tests that agree below n pick as many
pub count_ext : (p q : ℕ → Bool) (n : ℕ) → ((k : ℕ) → k < n → p k ≡ q k) → count p n ≡ count q n
unfolding count
count_ext p q zero h = refl
count_ext p q (suc n) h = rw (h n (omega arith), count_ext p q n (λ k l. h k (omega arith)))

-- none below n is picked
pub count_none : (p : ℕ → Bool) (n : ℕ) → ((k : ℕ) → k < n → p k ≡ false) → count p n ≡ 0
unfolding count
count_none p zero h = refl
count_none p (suc n) h = rw (h n (omega arith)) (count_none p n (λ k l. h k (omega arith)))

count_step : (b : Bool) (c n : ℕ) → c ≤ n → cond b (suc c) c ≤ suc n
count_step true c n h = omega arith
count_step false c n h = omega arith

pub count_le : (p : ℕ → Bool) (n : ℕ) → count p n ≤ n
unfolding count
count_le p zero = omega arith
count_le p (suc n) = count_step (p n) (count p n) n (count_le p n)

-- one index more
pub count_more : (p : ℕ → Bool) (n : ℕ) → count p (n + 1) ≡ cond (p n) (suc (count p n)) (count p n)
unfolding count
count_more p n = ap (count p) (add-one n)

add_cond : (b : Bool) (m c d : ℕ) → m ≡ c + d → cond b (suc m) m ≡ c + cond b (suc d) d
add_cond true m c d e = omega arith
add_cond false m c d e = e

-- those below m, and those from m on
pub count_add : (p : ℕ → Bool) (m n : ℕ) → count p (m + n) ≡ count p m + count (λ k. p (m + k)) n
unfolding count
count_add p m zero = rw (add-zero, add-zero)
count_add p m (suc n) =
    ap (count p) (add-suc m n) ∙ add_cond (p (m + n)) (count p (m + n)) (count p m) (count (λ k. p (m + k)) n) (count_add p m n)
