-- What repair does: a code word stays; a code word with one flipped bit comes back, whichever bit it was; with two it is beyond repair; and
-- what is beyond repair stays as it is. Assumes nothing.
use Prim.Native.Nat.{ℕ, ◌%◌, ◌<◌, ◌≤◌}
use mathlib.Core.Bool.{Bool, true, false, not, cond}
use mathlib.Core.Path.{◌≡◌, refl, sym, ap, ap₂, ◌∙◌}
use mathlib.Core.List.{List}
use native.Mathlib.Decide.{ℕ_discrete}
use native.Mathlib.Omega.{arith}
use borrow.Author.Tests.{lt-ltb, le-ltb, eq-eqb, ne_eqb}
use lib.Bits.{bit_xor, xor_self, xor_zero_l, xor_mod}
use lib.Dec.{eqb, ltb}
use lib.ListN.{length}
use Rattle.bits.proofs.Xor.{xor_none}
use Rattle.prelude.proofs.Common.{by_bound}
use Rattle.hamming.specs.declared.Found.TheVariants.{Clean, Flipped, Beyond}
use Rattle.hamming.specs.declared.Repaired.{Repaired}
use Rattle.sizes.specs.Sizes.{word_bits, word_bytes}
use Rattle.hamming_matrix.specs.Columns.{column_of, position_of}
use Rattle.hamming.specs.Code.{checks_of, flip}
use Rattle.hamming.specs.Repair.{answer, repair_at, repair_of}
use Rattle.hamming_matrix.proofs.Matrix.{column_odd, column_not_zero, columns_differ, position_column, column_position, no_column_even}
use Rattle.hamming.proofs.Flipping.{flip_long, flip-flip, checks_flip}
use Rattle.hamming.specs.Steps.{found_of}
use Rattle.hamming.proofs.Words.{checks_lt}

-- ---- the three cases

pub at_clean : (w : List ℕ) (c i : ℕ) → c ≡ 0 → repair_at w c i ≡ answer w Clean
unfolding repair_at
at_clean w c i e = rw (eq-eqb c 0 e)

pub at_flipped : (w : List ℕ) (c i : ℕ) → (c ≡ 0 → ⊥) → i < word_bits → repair_at w c i ≡ answer (flip w i) (Flipped i)
unfolding repair_at
at_flipped w c i ne h = rw (ne_eqb c 0 ne, lt-ltb i word_bits h)

pub at_beyond : (w : List ℕ) (c i : ℕ) → (c ≡ 0 → ⊥) → word_bits ≤ i → repair_at w c i ≡ answer w Beyond
unfolding repair_at
at_beyond w c i ne h = rw (ne_eqb c 0 ne, le-ltb i word_bits h)

-- so what holds in each case holds of the answer
pub by_case : (P : Repaired → Type 0) (w : List ℕ) (c i : ℕ)
    → (c ≡ 0 → P (answer w Clean))
    → ((c ≡ 0 → ⊥) → i < word_bits → P (answer (flip w i) (Flipped i)))
    → ((c ≡ 0 → ⊥) → word_bits ≤ i → P (answer w Beyond))
    → P (repair_at w c i)
by_case P w c i p q r = at_zero (ℕ_discrete c 0)
  where
    at_zero : Dec (c ≡ 0) → P (repair_at w c i)
    at_zero (yes e) = rw (at_clean w c i e) (p e)
    at_zero (no ne) =
        by_bound word_bits i (λ h. rw (at_flipped w c i ne h) (q ne h)) (λ h. rw (at_beyond w c i ne h) (r ne h))

-- ---- what holds of any sixteen bytes

-- what is beyond repair is left as it is
pub beyond_kept : (w : List ℕ) → (repair_of w).found ≡ Beyond → (repair_of w).word ≡ w
unfolding repair_of
beyond_kept w =
    by_case (λ r. r.found ≡ Beyond → r.word ≡ w) w (checks_of w) (position_of (checks_of w)) (λ e t. refl) (λ ne h t. cc) (λ ne h t. refl)

-- and anything else is a code word afterwards
pub repaired_checks : (w : List ℕ) → length w ≡ word_bytes → ((repair_of w).found ≡ Beyond → ⊥) → checks_of (repair_of w).word ≡ 0
unfolding repair_of
repaired_checks w long =
    let c = checks_of w in
    let i = position_of c in
    by_case (λ r. (r.found ≡ Beyond → ⊥) → checks_of r.word ≡ 0) w c i (λ e t. e)
    (λ ne h t. checks_flip w long i h ∙ ap (bit_xor c) (column_position c h) ∙ xor_self c)
    (λ ne h t. absurd (t refl))

-- ---- what becomes of a code word

-- a code word is left alone
pub none_kept : (w : List ℕ) → checks_of w ≡ 0 → repair_of w ≡ answer w Clean
unfolding repair_of
none_kept w e = at_clean w (checks_of w) (position_of (checks_of w)) e

-- what repair found says whether the checks were zero
by_tests : (w v : List ℕ) (i : ℕ) (a b : Bool) → found_of (cond a (answer w Clean) (cond b (answer v (Flipped i)) (answer w Beyond))).found ≡ not a
by_tests w v i true b = refl
by_tests w v i false true = refl
by_tests w v i false false = refl

pub found_checks : (w : List ℕ) → found_of (repair_of w).found ≡ not (eqb (checks_of w) 0)
unfolding repair_of repair_at
found_checks w = by_tests w (flip w (position_of (checks_of w))) (position_of (checks_of w)) (eqb (checks_of w) 0) (ltb (position_of (checks_of w)) word_bits)

module _ (w : List ℕ) (long : length w ≡ word_bytes) (clean : checks_of w ≡ 0) where
  -- with one bit flipped, its checks are that bit's column
  pub flip_checks : (i : ℕ) → i < word_bits → checks_of (flip w i) ≡ column_of i
  flip_checks i h = checks_flip w long i h ∙ ap (λ (c : ℕ). bit_xor c (column_of i)) clean ∙ xor_zero_l (column_of i)

  -- so it is seen
  pub flip_seen : (i : ℕ) → i < word_bits → checks_of (flip w i) ≡ 0 → ⊥
  flip_seen i h e = column_not_zero i h (sym (flip_checks i h) ∙ e)

  -- and repaired to what it was
  pub flip_repaired : (i : ℕ) → i < word_bits → repair_of (flip w i) ≡ answer w (Flipped i)
  unfolding repair_of
  flip_repaired i h =
      let p : position_of (checks_of (flip w i)) ≡ i = ap position_of (flip_checks i h) ∙ position_column i h in
      ap (repair_at (flip w i) (checks_of (flip w i))) p
      ∙ at_flipped (flip w i) (checks_of (flip w i)) i (flip_seen i h) h
      ∙ ap (λ (v : List ℕ). answer v (Flipped i)) (flip-flip w long i h)

  module _ (i j : ℕ) (hi : i < word_bits) (hj : j < word_bits) (differ : i ≡ j → ⊥) where
    -- with two, its checks are the sum of two columns: not zero, and even by the row of ones
    pub two_checks : checks_of (flip (flip w i) j) ≡ bit_xor (column_of i) (column_of j)
    two_checks =
        checks_flip (flip w i) (flip_long w i ∙ long) j hj ∙ ap (λ (c : ℕ). bit_xor c (column_of j)) (flip_checks i hi)

    pub two_seen : checks_of (flip (flip w i) j) ≡ 0 → ⊥
    two_seen e = differ (columns_differ i j hi hj (xor_none (column_of i) (column_of j) (sym two_checks ∙ e)))

    even : checks_of (flip (flip w i) j) % 2 ≡ 0
    even = ap (λ (c : ℕ). c % 2) two_checks ∙ xor_mod (column_of i) (column_of j) 1 ∙ ap₂ bit_xor (column_odd i hi) (column_odd j hj)

    pub two_beyond : repair_of (flip (flip w i) j) ≡ answer (flip (flip w i) j) Beyond
    unfolding repair_of
    two_beyond =
        let v = flip (flip w i) j in
        let p : position_of (checks_of v) ≡ word_bits = no_column_even (checks_of v) (checks_lt v) even in
        at_beyond v (checks_of v) (position_of (checks_of v)) two_seen (omega arith)
