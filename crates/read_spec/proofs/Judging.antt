-- The table of reading: its answer is exact, and the code comes to it by numbers 1 and 2 first, then the two tallies. Assumes nothing.
use Prim.Native.Nat.{ℕ, ◌*◌}
use mathlib.Core.Bool.{Bool, true, false, cond}
use mathlib.Core.Path.{◌≡◌, refl, sym, ap, ap₂, ◌∙◌}
use mathlib.Core.List.{List, [], ◌∷◌}
use lib.Dec.{ltb}
use lib.ListN.{length}
use Rattle.std.specs.Prelude.{Option, Some, None, Ok, Err, IfOk, IfErr}
use Rattle.std.proofs.lemmas.Result.{IfOk-at_ok, IfErr-at_err}
use Rattle.prelude.specs.Loops.{first, count}
use Rattle.answer.specs.Numbers.{all_done, wrong_length, beyond_repair, filler_not_zero, wrong_mbas, wrong_crc, pad_not_zero}
use Rattle.answer.specs.Rows.{Row, done, refused, wrong, FirstFault, row_number, places_of, holds_at, first_of, answer_of, rising}
use Rattle.answer.specs.Demand1.{Exactly, Demand1}
use Rattle.answer.specs.Outcomes.{Outcome, written}
use Rattle.answer.specs.Steps.{NoFault, RowPassed, Passed, first_found}
use Rattle.answer.specs.declared.Answer.{Answer}
use Rattle.answer.specs.Refusals.{refusal_number, found_at, answered}
use Rattle.answer.specs.declared.refusal.Refusal.{Refusal}
use Rattle.answer.specs.declared.refusal.Refused.{Refused}
use Rattle.answer.proofs.Table.{exactly, demand_1}
use Rattle.answer.proofs.Buffers.{which_buffer}
use Rattle.answer.proofs.Turns.{in_turn_law, passed, early_refused, early_passed, right_length}
use Rattle.answer.proofs.Meets.{meets_done, meets_refused}
use Rattle.sizes.specs.Sizes.{fec_blocks, words, info_length, parity_length, capture_length}
use Rattle.line.specs.Fec.{mbas_allowed}
use Rattle.line.specs.Frames.{info_of, parity_of}
use Rattle.line.specs.Words.{fec_in}
use Rattle.line.proofs.CaptureLaws.{frames_in}
use Rattle.read_spec.specs.Read.{repaired, is_beyond, is_filled, mbas_differs, crc_differs, pad_differs, is_seen, read_early_rows, read_late_rows, read_rows, read_answer, given, read_leaves}
use Rattle.read_spec.specs.Steps.{AcceptedRead, refused_where, words_to, frames_to, verdict_of, late_answer, late_leaves}
use Rattle.read_spec.specs.declared.WordTally.{WordTally}
use Rattle.read_spec.specs.declared.BlockTally.{BlockTally}

-- a search in the tally found nothing, and the call goes on
pub none_found : (r : Refusal) (x : Option ℕ) {u : Unit {0}} → Ok u ≡ found_at r x → x ≡ None
none_found r x h = IfOk-at_ok (λ _. x ≡ None) (sym h) (shown x)
  where
    shown : (y : Option ℕ) → IfOk (found_at r y) (λ _. y ≡ None)
    shown (Some p) = tt
    shown None = refl

-- it found a place, and the call is refused there
pub found_place : (r : Refusal) (x : Option ℕ) (next : Answer) {e : Refused} → Err e ≡ found_at r x → answered (Err e) ≡ refused_where (refusal_number r) x next
found_place r x next h = IfErr-at_err (λ e. answered (Err e) ≡ refused_where (refusal_number r) x next) (sym h) (shown x)
  where
    shown : (y : Option ℕ) → IfErr (found_at r y) (λ e. answered (Err e) ≡ refused_where (refusal_number r) y next)
    shown (Some p) = refl
    shown None = tt

read_early_rise : (N m0 cap info par : ℕ) → rising 0 (read_early_rows N m0 cap info par) ≡ true
unfolding rising read_early_rows row_number
read_early_rise N m0 cap info par = refl

-- a row's search in the tally, as the row itself
row_found : (k : ℕ) (p : ℕ → Bool) (n : ℕ) {x y : Answer} → x ≡ y → cond (ltb (first p n) n) (refused k (first p n)) x ≡ refused_where k (first_found p n) y
unfolding first_found
row_found k p n {x} {y} e = by (ltb (first p n) n)
  where
    by : (b : Bool) → cond b (refused k (first p n)) x ≡ refused_where k (cond b (Some (first p n)) None) y
    by true = refl
    by false = e

-- the two tallies decide as the later rows do
tallied : (N m0 : ℕ) (cap : List ℕ) → answer_of (read_late_rows N m0 cap) (count (is_seen cap) (words N)) ≡ late_answer N m0 cap
unfolding read_late_rows answer_of first_of row_number places_of holds_at verdict_of
tallied N m0 cap =
    row_found beyond_repair (is_beyond cap) (words N)
    (row_found filler_not_zero (is_filled N cap) (words N)
    (row_found wrong_mbas (mbas_differs m0 cap) (fec_blocks * N)
    (row_found wrong_crc (crc_differs cap) (fec_blocks * N)
    (row_found pad_not_zero (pad_differs cap) N refl))))

module _ (N m0 : ℕ) (cap info par : List ℕ) where
  abbrev rows : List Row
  rows = read_rows N m0 cap info par

  abbrev early : List Row
  early = read_early_rows N m0 (length cap) (length info) (length par)

  abbrev seen : ℕ
  seen = count (is_seen cap) (words N)

  read_rise : rising 0 rows ≡ true
  unfolding rising read_early_rows read_late_rows row_number
  read_rise = refl

  -- DEMAND 1 of reading: the answer, and both buffers
  pub read_exactly : Exactly rows seen (read_answer N m0 cap info par)
  unfolding read_answer
  read_exactly = exactly rows seen read_rise

  -- number 2 names the first of capture, information and parity whose length is wrong
  pub read_names : (read_answer N m0 cap info par).number ≡ wrong_length
      → FirstFault 1 (wrong (capture_length N) (length cap) ∷ wrong (info_length N) (length info) ∷ wrong (parity_length N) (length par) ∷ [])
      (read_answer N m0 cap info par).place
  unfolding read_early_rows
  read_names = which_buffer (_ ∷ []) wrong_length _ (read_late_rows N m0 cap) seen read_rise read_exactly

  pub read_demand_1 : {r : Answer} {left : List ℕ × List ℕ} → Outcome (read_answer N m0 cap info par) (read_leaves N m0 cap info par) r left
      → Demand1 rows seen (given N cap) (info, par) r left
  unfolding read_answer read_leaves
  read_demand_1 o = demand_1 rows seen (given N cap) (info, par) read_rise o

  -- ---- what the code has found after `judge`

  module _ {r : Answer} (e : r ≡ answer_of early 0) where
    shown : r.number ≡ all_done → Passed early
    shown z = passed early (done 0) (read_early_rise N m0 (length cap) (length info) (length par)) (e ∙ in_turn_law early 0) z

    pub read_accepted : r.number ≡ all_done → AcceptedRead N cap info par
    unfolding read_early_rows Passed RowPassed NoFault
    read_accepted z =
        let p = shown z in
        let f = frames_in N (mbas_allowed m0) refl p.0 in
        let w = p.1.0 in
        record {
          some = f.some;
          few = f.few;
          capture = right_length w.0;
          information = right_length w.1.0;
          parity = right_length w.1.1.0;
        }

    late : r.number ≡ all_done → read_answer N m0 cap info par ≡ late_answer N m0 cap
    unfolding read_answer
    late z = early_passed early (read_late_rows N m0 cap) seen (shown z) ∙ tallied N m0 cap

    -- the rest of the table decides
    pub read_late : {x : Answer} {out : List ℕ × List ℕ} → r.number ≡ all_done → Outcome (late_answer N m0 cap) (late_leaves N m0 cap info par) x out
        → Outcome (read_answer N m0 cap info par) (read_leaves N m0 cap info par) x out
    unfolding read_leaves
    read_late {x} {out} z h = record {
      told = h.told ∙ sym (late z);
      kept = h.kept ∙ ap (λ (y : Answer). written y (given N cap) (info, par)) (sym (late z));
    }

    -- refused by 1 or 2: nothing is written
    pub read_refused : (r.number ≡ all_done → ⊥) → Outcome (read_answer N m0 cap info par) (read_leaves N m0 cap info par) r (info, par)
    unfolding read_answer read_leaves
    read_refused h = meets_refused (given N cap) (early_refused early (read_late_rows N m0 cap) 0 seen (e ∙ in_turn_law early 0) h) h

-- ---- what the code has found after the two passes

module _ (N m0 : ℕ) (cap info par : List ℕ) (w : WordTally) (b : BlockTally) (r : Answer)
    (ew : w ≡ words_to N cap (words N)) (eb : b ≡ frames_to m0 cap N) (er : r ≡ verdict_of w b) where
  told : r ≡ late_answer N m0 cap
  told = er ∙ ap₂ verdict_of ew eb

  pub late_done : (i p : List ℕ) → r.number ≡ all_done → i ≡ info_of N (fec_in (repaired cap)) → p ≡ parity_of N (fec_in (repaired cap))
      → Outcome (late_answer N m0 cap) (late_leaves N m0 cap info par) r (i, p)
  late_done i p z ei ep = meets_done (info, par) told z (rw (ei, ep))

  pub late_refused : (r.number ≡ all_done → ⊥) → Outcome (late_answer N m0 cap) (late_leaves N m0 cap info par) r (info, par)
  late_refused h = meets_refused (given N cap) told h
