-- Whether a file begins as every capture file does, by the test of its first bytes as a whole. Assumes nothing.
use Prim.Native.Nat.{ℕ, ◌≤◌, ◌<◌}
use mathlib.Core.Bool.{Bool, true, false, not}
use mathlib.Core.Path.{◌≡◌, refl, sym, ap, ◌∙◌}
use mathlib.Core.List.{List}
use native.Mathlib.Omega.{arith}
use borrow.Author.Tests.{le-ltb, eqb-true, not-false, eq-eqb}
use lib.Dec.{eqb}
use lib.ListN.{length, get_or, take, length-take}
use lib.Seq.{get_or-take}
use Rattle.std.specs.Cmp.Lexicographic.{pointwise}
use Rattle.std.proofs.lemmas.Bool.Decides.{Decides-eqb}
use Rattle.std.proofs.lemmas.List.{get_or_past}
use Rattle.std.proofs.lemmas.Slice.Eq.{slice_eq-Decides}
use Rattle.prelude.proofs.Common.{by_bound, clash}
use Rattle.prelude.proofs.Lists.{is_table}
use Rattle.answer.proofs.Turns.{none_there}
use Rattle.archive_spec.specs.File.{fixed_bytes, fixed}
use Rattle.archive_spec.specs.Write.{any_below}
use Rattle.archive_spec.specs.Read.{fixed_differs, is_no_archive}
use Rattle.archive_spec.proofs.Heads.{fixed_table}
use Rattle.archive_spec.proofs.Judging.{none_below}

-- no byte differs
module _ (s : List ℕ) (h : (k : ℕ) → k < fixed_bytes → fixed_differs s k ≡ false) where
  same_byte : (k : ℕ) → k < fixed_bytes → get_or s k 0 ≡ get_or fixed k 0
  same_byte k l = eqb-true (get_or s k 0) (get_or fixed k 0) (not-false (eqb (get_or s k 0) (get_or fixed k 0)) (h k l))

  last_byte : get_or s 15 0 ≡ 10
  unfolding fixed
  last_byte = same_byte 15 (omega arith)

  long_enough : 15 < length s
  long_enough = by_bound (length s) 15 (λ l. l) (λ l. absurd (omega (arith, last_byte, get_or_past s 15 0 l)))

  begins : fixed ≡ take fixed_bytes s
  begins =
      sym (is_table 0 fixed_bytes (λ k. get_or fixed k 0) (take fixed_bytes s) (rw (length-take fixed_bytes s) (omega (arith, long_enough)))
      (λ k l. get_or-take fixed_bytes s k 0 l ∙ same_byte k l)
      ∙ fixed_table)

module _ (size : ℕ) (s : List ℕ) (l : fixed_bytes ≤ size) where
  by_test : (r b : Bool) → r ≡ pointwise eqb fixed (take fixed_bytes s) → any_below (fixed_differs s) fixed_bytes ≡ b → not r ≡ b
  by_test true false m e = refl
  by_test false true m e = refl
  by_test true true m e =
      let d = slice_eq-Decides Decides-eqb fixed (take fixed_bytes s) true m in
      absurd (clash e (none_there fixed_bytes (fixed_differs s)
      (λ k i. rw (eq-eqb (get_or s k 0) (get_or fixed k 0) (sym (get_or-take fixed_bytes s k 0 i) ∙ ap (λ (t : List ℕ). get_or t k 0) (sym (d.0 refl)))))))
  by_test false false m e =
      let d = slice_eq-Decides Decides-eqb fixed (take fixed_bytes s) false m in
      absurd (clash (d.1 (begins s (none_below (fixed_differs s) fixed_bytes e))) refl)

  pub other_beginning : {r : Bool} → r ≡ pointwise eqb fixed (take fixed_bytes s) → not r ≡ is_no_archive size s
  unfolding is_no_archive
  other_beginning {r} m = rw (le-ltb size fixed_bytes l) (by_test r (any_below (fixed_differs s) fixed_bytes) m refl)
