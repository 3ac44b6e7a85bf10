-- The sequence o obeys the document's rule, and its bits are bits. Assumes nothing.
use Prim.Native.Nat.{ℕ, zero, suc, ◌+◌, ◌-◌, ◌%◌, ◌≤◌, ◌<◌}
use mathlib.Core.Path.{◌≡◌, refl, sym, ap, ◌∙◌}
use mathlib.Core.List.{[], ◌∷◌}
use mathlib.Core.Logic.{⊎_elim}
use native.Mathlib.Nat.{add-zero, zero-add, add-suc, mod-lt, eq-or-lt_of_le}
use native.Mathlib.Omega.{arith}
use lib.ListN.{get_or, replicate, get_or-replicate}
use Rattle.prelude.specs.Lists.{tabulate}
use Rattle.bits.specs.Bits.{num, pack, Bits}
use Rattle.scrambler.specs.Scrambler.{push, hist, o}

-- an older entry of a longer history
hist_shift : (n j i : ℕ) → get_or (hist (n + j)) (i + j) 0 ≡ get_or (hist n) i 0
unfolding hist push
hist_shift n zero i = rw (add-zero n, add-zero i)
hist_shift n (suc j) i = rw (add-suc n j, add-suc i j) (hist_shift n j i)

hist_at : (n j : ℕ) → j ≤ 15 → o (n + j) ≡ get_or (hist n) (15 - j) 0
unfolding o
hist_at n j h =
    let e : 15 - j + j ≡ 15 = omega arith in
    ap (λ (k : ℕ). get_or (hist (n + j)) k 0) (sym e) ∙ hist_shift n j (15 - j)

-- the rule
pub o_step : (n : ℕ) → o (n + 16) ≡ (o (n + 15) + o (n + 13) + o (n + 4) + o n) % 2
unfolding hist push
o_step n =
    let e : n + 16 ≡ suc n + 15 = omega arith in
    let z : o n ≡ get_or (hist n) 15 0 = ap o (sym (add-zero n)) ∙ hist_at n 0 (omega arith) in
    rw (e, hist_at (suc n) 15 (omega arith), hist_at n 15 (omega arith), hist_at n 13 (omega arith), hist_at n 4 (omega arith), z)

-- the first sixteen
pub o_first : (n : ℕ) → n < 16 → o n ≡ 1
unfolding hist
o_first n h = ap o (sym (zero-add n)) ∙ hist_at 0 n (omega arith) ∙ get_or-replicate 16 (15 - n) 1 0 (omega arith)

ones_lt : (k i : ℕ) → get_or (replicate k 1) i 0 < 2
ones_lt zero i = omega arith
ones_lt (suc k) zero = omega arith
ones_lt (suc k) (suc i) = ones_lt k i

hist_lt : (n i : ℕ) → get_or (hist n) i 0 < 2
unfolding hist push
hist_lt zero i = ones_lt 16 i
hist_lt (suc n) zero = mod-lt (get_or (hist n) 0 0 + get_or (hist n) 2 0 + get_or (hist n) 11 0 + get_or (hist n) 15 0) (omega arith)
hist_lt (suc n) (suc i) = hist_lt n i

pub o_lt : Bits o
unfolding o
o_lt n = hist_lt n 15

-- a sequence that begins with sixteen ones and obeys the rule is this one: the document leaves no other
module _ (p : ℕ → ℕ) (first : (n : ℕ) → n < 16 → p n ≡ 1) (rule : (n : ℕ) → p (n + 16) ≡ (p (n + 15) + p (n + 13) + p (n + 4) + p n) % 2) where
  -- where sixteen agree, the next does
  newest : (n : ℕ) → ((j : ℕ) → j < 16 → p (n + j) ≡ o (n + j)) → p (n + 16) ≡ o (n + 16)
  newest n h =
      let z : p n ≡ o n = ap p (sym (add-zero n)) ∙ h 0 (omega arith) ∙ ap o (add-zero n) in
      rw (rule n, h 15 (omega arith), h 13 (omega arith), h 4 (omega arith), z) (sym (o_step n))

  -- sixteen agree from any n on
  window : (n j : ℕ) → j < 16 → p (n + j) ≡ o (n + j)
  window zero j h = rw zero-add (first j h ∙ sym (o_first j h))
  window (suc n) j h =
      let e : suc n + j ≡ n + suc j = omega arith in
      rw e (⊎_elim (λ q. rw q (newest n (window n))) (λ l. window n (suc j) l) (eq-or-lt_of_le h))

  pub only_o : (n : ℕ) → p n ≡ o n
  only_o n = rw (add-zero n) at (window n 0 (omega arith))

-- the first 24 bits are FF FF 4E, by computing
pub o_24 : pack 3 o ≡ 0xFF ∷ 0xFF ∷ 0x4E ∷ []
unfolding tabulate num o hist push
o_24 = refl
