-- What follows from demand 2 of a capture as it was coded: reading it counts 0, and reading it with another first number is refused, so that no two
-- first numbers give one capture. Assumes nothing.
use Prim.Native.Nat.{ℕ, zero, suc, ◌*◌, ◌≤◌, ◌<◌}
use mathlib.Core.Bool.{Bool, true, false, not}
use mathlib.Core.Path.{◌≡◌, refl, sym, ap, ◌∙◌}
use mathlib.Core.List.{List}
use native.Mathlib.Omega.{arith}
use borrow.Author.Tests.{lt-ltb, eqb-true, eqb-false, eq-eqb, ne_eqb}
use lib.Dec.{eqb}
use lib.ListN.{length}
use Rattle.prelude.specs.Loops.{count}
use Rattle.prelude.proofs.LoopLaws.{first_is}
use Rattle.answer.specs.Numbers.{wrong_mbas}
use Rattle.answer.specs.Rows.{refused}
use Rattle.answer.specs.declared.Answer.{Answer}
use Rattle.answer.specs.Steps.{row_then, in_turn}
use Rattle.answer.proofs.Turns.{in_turn_law, early_passed, none_there}
use Rattle.sizes.specs.Sizes.{fec_blocks, info_length, parity_length, capture_length, words, word_bits}
use Rattle.line.specs.Fec.{mbas_allowed, mbas_of}
use Rattle.line.proofs.CaptureLaws.{super_frames}
use Rattle.line.proofs.FecLaws.{mbas_tells}
use Rattle.line_order.proofs.OrderLaws.{laid_words}
use Rattle.code.specs.Code.{capture_of}
use Rattle.code.proofs.Coding.{capture_long}
use Rattle.read_spec.specs.Read.{is_beyond, is_filled, is_seen, mbas_differs, read_early_rows, read_late_rows, read_answer, read_leaves}
use Rattle.demand_laws.specs.Demand2.{Input, Flips, is_flipped, flip_if, flipped, how_many, ReadsBack, apart_at}
use Rattle.demand_laws.proofs.Demand2.{demand_2, no_4, no_5, mbas_read, early_passed_by}

-- no bit flipped
abbrev pub no_flips : Flips
no_flips w = word_bits

none_flipped : (N : ℕ) (cap : List ℕ) → length cap ≡ capture_length N → flipped N no_flips cap ≡ cap
unfolding flipped flip_if
none_flipped N cap h = laid_words N cap h

no_flips_law : (n : ℕ) → count (is_flipped no_flips) n ≡ 0
unfolding count
no_flips_law zero = refl
no_flips_law (suc n) = no_flips_law n

-- reading it counts 0
pub read_as_coded : (N m0 : ℕ) (info par info₀ par₀ : List ℕ) → Input N m0 info par → length info₀ ≡ info_length N → length par₀ ≡ parity_length N
    → ReadsBack info par 0 (read_answer N m0 (capture_of N m0 info par) info₀ par₀) (read_leaves N m0 (capture_of N m0 info par) info₀ par₀)
unfolding how_many
read_as_coded N m0 info par info₀ par₀ input i₀ p₀ =
    let long = capture_long N m0 info par in
    let r = demand_2 N m0 info par input no_flips info₀ par₀ i₀ p₀ in
    rw (none_flipped N (capture_of N m0 info par) long, no_flips_law (words N)) at r

-- reading it with another first number is refused by 6, at the first FEC block that tells the two apart
module _ (N m0 m1 : ℕ) (info par info₀ par₀ : List ℕ) (input : Input N m0 info par) (other : mbas_allowed m1 ≡ true) (info₀-long : length info₀ ≡ info_length N)
    (par₀-long : length par₀ ≡ parity_length N) where
  abbrev as_coded : List ℕ
  as_coded = flipped N no_flips (capture_of N m0 info par)

  blocks : fec_blocks ≤ fec_blocks * N
  blocks = omega (arith, super_frames N input.frames)

  -- FEC block t carries the MBAS that m0 gives it, and that of m1 is expected
  told : (t : ℕ) → t < fec_blocks * N → mbas_differs m1 as_coded t ≡ not (eqb (mbas_of m0 t) (mbas_of m1 t))
  unfolding mbas_differs
  told t h = rw (mbas_read N m0 info par no_flips t h)

  refused_at : (t : ℕ) → t < fec_blocks * N → ((q : ℕ) → q < t → mbas_of m0 q ≡ mbas_of m1 q) → (mbas_of m0 t ≡ mbas_of m1 t → ⊥)
      → read_answer N m1 (capture_of N m0 info par) info₀ par₀ ≡ refused wrong_mbas t
  unfolding read_answer read_late_rows in_turn row_then
  refused_at t here before apart =
      let long = capture_long N m0 info par in
      let c = count (is_seen as_coded) (words N) in
      let differs = told t here ∙ ap not (ne_eqb (mbas_of m0 t) (mbas_of m1 t) apart) in
      ap (λ (s : List ℕ). read_answer N m1 s info₀ par₀) (sym (none_flipped N (capture_of N m0 info par) long))
      ∙ early_passed (read_early_rows N m1 (length as_coded) (length info₀) (length par₀)) (read_late_rows N m1 as_coded) c
      (early_passed_by N m0 info par no_flips input info₀ par₀ info₀-long par₀-long m1 other)
      ∙ in_turn_law (read_late_rows N m1 as_coded) c
      ∙ rw (none_there (words N) (is_beyond as_coded) (no_4 N m0 info par no_flips), none_there (words N) (is_filled N as_coded) (no_5 N m0 info par no_flips))
      (rw (
        first_is (mbas_differs m1 as_coded) t (fec_blocks * N)
            (λ q l. told q (omega arith) ∙ ap not (eq-eqb (mbas_of m0 q) (mbas_of m1 q) (before q l))) here differs,
        lt-ltb t (fec_blocks * N) here,
      ))

  module _ (differ : m0 ≡ m1 → ⊥) where
    other_by : (same : Bool) → eqb (mbas_of m0 0) (mbas_of m1 0) ≡ same → read_answer N m1 (capture_of N m0 info par) info₀ par₀ ≡ refused wrong_mbas (apart_at m0 m1)
    unfolding apart_at
    other_by true e =
        let first : mbas_of m0 0 ≡ mbas_of m1 0 = eqb-true (mbas_of m0 0) (mbas_of m1 0) e in
        rw e
        (refused_at 1 (omega (arith, blocks)) (λ q l. let z : q ≡ 0 = omega arith in rw z first)
        (λ second. differ (mbas_tells m0 m1 input.number other first second)))
    other_by false e = rw e (refused_at 0 (omega (arith, blocks)) (λ q l. absurd (omega arith)) (eqb-false (mbas_of m0 0) (mbas_of m1 0) e))

    pub read_other : read_answer N m1 (capture_of N m0 info par) info₀ par₀ ≡ refused wrong_mbas (apart_at m0 m1)
    read_other = other_by (eqb (mbas_of m0 0) (mbas_of m1 0)) refl

-- so two captures coded from one input with different first numbers differ, those of 2 * k and 2 * k + 1 too
pub captures_differ : (N m0 m1 : ℕ) (info par : List ℕ) → Input N m0 info par → mbas_allowed m1 ≡ true → (m0 ≡ m1 → ⊥)
    → capture_of N m0 info par ≡ capture_of N m1 info par → ⊥
captures_differ N m0 m1 info par input other differ same =
    let input1 : Input N m1 info par = record {
      frames = input.frames;
      number = other;
      info_long = input.info_long;
      info_are_bytes = input.info_are_bytes;
      parity_long = input.parity_long;
      parity_are_bytes = input.parity_are_bytes;
    } in
    let ends = (read_as_coded N m1 info par info par input1 input.info_long input.parity_long).answer in
    let refuses = read_other N m0 m1 info par info par input other input.info_long input.parity_long differ in
    let equal = sym refuses ∙ ap (λ (s : List ℕ). read_answer N m1 s info par) same ∙ ends in
    omega (arith, ap (λ (a : Answer). a.number) equal)
