-- The table of an edit: its answer is exact, and the code comes to it by numbers 1 to 3 first, then number 9. Assumes nothing.
use Prim.Native.Nat.{ℕ, ◌%◌, ◌<◌}
use mathlib.Core.Bool.{Bool, true, false, not, ◌&&◌}
use mathlib.Core.Path.{◌≡◌, refl, sym, ap, ap₂, ◌∙◌}
use mathlib.Core.List.{List, [], ◌∷◌}
use borrow.Author.Tests.{ltb-true, lt-ltb, not-false}
use lib.Dec.{ltb, eqb}
use lib.ListN.{length, get_or}
use Rattle.std.specs.Prelude.{cond, Option, Some, None, Result, Ok, Err, IfOk, IfErr}
use Rattle.std.specs.Result.{is_err}
use Rattle.std.proofs.lemmas.Result.{IfOk-at_ok, IfErr-at_err}
use Rattle.bits.specs.Bits.{num, bit_at}
use Rattle.prelude.specs.Loops.{first, count}
use Rattle.prelude.proofs.Common.{clash, and_right}
use Rattle.bits.proofs.Numbers.{num_back}
use Rattle.bits.proofs.Packing.{bit_of_lt, num-bit_of}
use Rattle.answer.specs.Numbers.{all_done, wrong_length, spare_bit}
use Rattle.answer.specs.Rows.{Row, done, refused, wrong, FirstFault, row_number, answer_of, rising}
use Rattle.answer.specs.Demand1.{Exactly, Demand1}
use Rattle.answer.specs.Outcomes.{Outcome}
use Rattle.answer.specs.Refusals.{refusal_number, refused_at, found_at, answered}
use Rattle.answer.specs.declared.refusal.Refusal.{Refusal}
use Rattle.answer.specs.declared.refusal.Refusal.TheVariants.{ListedFails}
use Rattle.answer.specs.declared.refusal.Refused.{Refused}
use Rattle.answer.specs.Steps.{row_then, in_turn, NoFault, RowPassed, Passed, first_found}
use Rattle.answer.specs.declared.Answer.{Answer}
use Rattle.answer.proofs.Table.{exactly, demand_1}
use Rattle.answer.proofs.Buffers.{which_buffer}
use Rattle.answer.proofs.Turns.{in_turn_law, passed, early_refused, early_passed, right_length, length_right}
use Rattle.answer.proofs.Results.{same_numbers, not_done}
use Rattle.answer.proofs.Meets.{meets_done, meets_refused}
use Rattle.sizes.specs.Sizes.{block_bytes, parity_bytes, list_length, words, blocks_of, capture_length}
use Rattle.line.specs.Captures.{super_allowed}
use Rattle.line.proofs.CaptureLaws.{frames_in, all_frames}
use Rattle.edit_spec.specs.Edit.{listed, client_spare_set, fails, edit_early_rows, edit_late_rows, edit_rows, edit_answer, edited, edit_leaves}
use Rattle.edit_spec.specs.Steps.{AcceptedEdit, Passing}
use Rattle.edit_spec.proofs.Passes.{passing_capture, passing_list}

-- ---- the seven spare bits are the low seven of the last byte

pub spare_test : (bits : List ℕ) (x : ℕ) → x ≡ get_or bits 32 0 → x < 256 → not (eqb (x % 128) 0) ≡ client_spare_set bits
unfolding client_spare_set
spare_test bits x e h =
    let p : num 8 (bit_at bits) 256 ≡ x = num-bit_of 8 bits 32 (rw e at h) ∙ sym e in
    ap (λ (y : ℕ). not (eqb (y % 128) 0)) (sym p) ∙ ap (λ (y : ℕ). not (eqb y 0)) (num_back 1 7 (bit_at bits) 256 (bit_of_lt 8 bits))

edit_early_rise : (N b bits parity cap list : ℕ) (spare : Bool) → rising 0 (edit_early_rows N b bits parity cap list spare) ≡ true
unfolding rising edit_early_rows row_number
edit_early_rise N b bits parity cap list spare = refl

-- ---- a search: it refuses at the first place that is picked, or nothing is picked

module _ (p : ℕ → Bool) (n : ℕ) (r : Refusal) where
  found_refused : {e : Refused} → Err e ≡ found_at r (first_found p n) → (ltb (first p n) n ≡ true) × (refused_at r (first p n) ≡ e)
  unfolding first_found
  found_refused h = IfErr-at_err (λ x. (ltb (first p n) n ≡ true) × (refused_at r (first p n) ≡ x)) (sym h) (shown (ltb (first p n) n))
    where
      shown : (t : Bool) → IfErr (found_at r (cond t (Some (first p n)) None)) (λ x. (t ≡ true) × (refused_at r (first p n) ≡ x))
      shown true = (refl, refl)
      shown false = tt

  found_gone : {u : Unit {0}} → Ok u ≡ found_at r (first_found p n) → ltb (first p n) n ≡ false
  unfolding first_found
  found_gone h = IfOk-at_ok (λ _. ltb (first p n) n ≡ false) (sym h) (shown (ltb (first p n) n))
    where
      shown : (t : Bool) → IfOk (found_at r (cond t (Some (first p n)) None)) (λ _. t ≡ false)
      shown true = tt
      shown false = refl

module _ (N b : ℕ) (bits parity cap list : List ℕ) where
  abbrev rows : List Row
  rows = edit_rows N b bits parity cap list

  abbrev early : List Row
  early = edit_early_rows N b (length bits) (length parity) (length cap) (length list) (client_spare_set bits)

  abbrev how_many : ℕ
  how_many = count (listed N b) (words N)

  edit_rise : rising 0 rows ≡ true
  unfolding rising edit_early_rows edit_late_rows row_number
  edit_rise = refl

  -- DEMAND 1 of an edit: the answer, the capture and the list
  pub edit_exactly : Exactly rows how_many (edit_answer N b bits parity cap list)
  unfolding edit_answer
  edit_exactly = exactly rows how_many edit_rise

  -- number 2 names the first of client block, parity, capture and list whose length is wrong
  pub edit_names : (edit_answer N b bits parity cap list).number ≡ wrong_length
      → FirstFault 1 (wrong block_bytes (length bits) ∷ wrong parity_bytes (length parity) ∷ wrong (capture_length N) (length cap) ∷ wrong list_length (length list) ∷ [])
      (edit_answer N b bits parity cap list).place
  unfolding edit_early_rows
  edit_names = which_buffer (_ ∷ []) wrong_length _ _ how_many edit_rise edit_exactly

  -- and number 3 the client block, which alone has spare bits
  pub edit_names_spare : (edit_answer N b bits parity cap list).number ≡ spare_bit → FirstFault 1 (client_spare_set bits ∷ []) (edit_answer N b bits parity cap list).place
  unfolding edit_early_rows
  edit_names_spare = which_buffer (_ ∷ _ ∷ []) spare_bit _ (edit_late_rows N b cap) how_many edit_rise edit_exactly

  pub edit_demand_1 : {r : Answer} {left : List ℕ × List ℕ} → Outcome (edit_answer N b bits parity cap list) (edit_leaves N b bits parity cap list) r left
      → Demand1 rows how_many (edited N b bits parity cap list) (cap, list) r left
  unfolding edit_answer edit_leaves
  edit_demand_1 o = demand_1 rows how_many (edited N b bits parity cap list) (cap, list) edit_rise o

  -- ---- what the code has found after `judge`

  module _ {r : Answer} {spare : Bool} (p : spare ≡ client_spare_set bits)
      (e : r ≡ answer_of (edit_early_rows N b (length bits) (length parity) (length cap) (length list) spare) 0) where
    judged : r ≡ in_turn early (done 0)
    judged = e ∙ ap (λ (x : Bool). answer_of (edit_early_rows N b (length bits) (length parity) (length cap) (length list) x) 0) p ∙ in_turn_law early 0

    pub edit_accepted : r.number ≡ all_done → AcceptedEdit N b bits parity cap list
    unfolding edit_early_rows Passed RowPassed NoFault
    edit_accepted z =
        let t = passed early (done 0) (edit_early_rise N b (length bits) (length parity) (length cap) (length list) (client_spare_set bits)) judged z in
        let q = not-false (super_allowed N && ltb b (blocks_of N)) t.0 in
        let f = frames_in N (ltb b (blocks_of N)) refl t.0 in
        let w = t.1.0 in
        record {
          some = f.some;
          few = f.few;
          block = ltb-true b (blocks_of N) (and_right (super_allowed N) (ltb b (blocks_of N)) q);
          bits_long = right_length w.0;
          parity_long = right_length w.1.0;
          capture_long = right_length w.1.1.0;
          list_long = right_length w.1.1.1.0;
          no_spare = t.1.1.0.0;
        }

    -- refused by 1, 2 or 3: nothing is written
    pub edit_refused : (r.number ≡ all_done → ⊥) → Outcome (edit_answer N b bits parity cap list) (edit_leaves N b bits parity cap list) r (cap, list)
    unfolding edit_answer edit_leaves
    edit_refused h = meets_refused (edited N b bits parity cap list) (early_refused early (edit_late_rows N b cap) 0 how_many judged h) h

  -- ---- and then number 9

  module _ (a : AcceptedEdit N b bits parity cap list) where
    shown : Passed early
    unfolding edit_early_rows Passed RowPassed NoFault
    shown =
        let inside : not (super_allowed N && ltb b (blocks_of N)) ≡ false = rw (all_frames N a.some a.few, lt-ltb b (blocks_of N) a.block) in (
          inside,
          (
            (length_right a.bits_long, (length_right a.parity_long, (length_right a.capture_long, (length_right a.list_long, tt)))),
            ((a.no_spare, tt), tt),
          ),
        )

    late : edit_answer N b bits parity cap list ≡ in_turn (edit_late_rows N b cap) (done how_many)
    unfolding edit_answer
    late = early_passed early (edit_late_rows N b cap) how_many shown ∙ in_turn_law (edit_late_rows N b cap) how_many

    module _ {o : Option ℕ} (found : o ≡ first_found (fails N b cap) (words N)) where
      -- at the first word that fails
      pub nine_outcome : {e : Refused} {x : Result ℕ Refused} → Err e ≡ found_at ListedFails o → x ≡ Err e
          → Outcome (edit_answer N b bits parity cap list) (edit_leaves N b bits parity cap list) (answered x) (cap, list)
      unfolding edit_leaves edit_late_rows in_turn row_then
      nine_outcome {e} h q =
          let f = found_refused (fails N b cap) (words N) ListedFails (h ∙ ap (found_at ListedFails) found) in
          meets_refused (edited N b bits parity cap list) (ap answered q ∙ ap (λ (y : Refused). answered (Err y)) (sym f.1) ∙ sym (late ∙ rw f.0))
          (λ z. not_done e (ap (λ (y : Answer). y.number) (sym (ap answered q)) ∙ z))

      pub done_outcome : {u : Unit {0}} {c : ℕ} {cap' list' : List ℕ} → Ok u ≡ found_at ListedFails o → Passing N b bits parity cap list (words N) cap' list' c
          → Outcome (edit_answer N b bits parity cap list) (edit_leaves N b bits parity cap list) (done c) (cap', list')
      unfolding edit_leaves edit_late_rows in_turn row_then
      done_outcome {u} {c} h p =
          let f = found_gone (fails N b cap) (words N) ListedFails (h ∙ ap (found_at ListedFails) found) in
          meets_done (cap, list) (ap done p.counted ∙ sym (late ∙ rw f)) refl
          (ap₂ (λ (x y : List ℕ). (x, y)) (passing_capture N b bits parity cap list p) (passing_list N b bits parity cap list p))
