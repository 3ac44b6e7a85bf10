-- DEMAND 3, proved. Assumes nothing.
use Prim.Native.Nat.{ℕ, ◌<◌}
use mathlib.Core.Bool.{Bool, true, false, not, ◌&&◌}
use mathlib.Core.Path.{◌≡◌, refl, sym, ap, ◌∙◌}
use mathlib.Core.List.{List, ◌++◌}
use borrow.Author.Tests.{lt-ltb, eq-eqb}
use lib.Dec.{eqb}
use lib.ListN.{length, get_or, drop}
use Rattle.prelude.specs.Loops.{count}
use Rattle.answer.specs.Rows.{done, answer_of}
use Rattle.answer.specs.Steps.{NoFault, RowPassed, Passed}
use Rattle.answer.specs.declared.Answer.{Answer}
use Rattle.answer.proofs.Turns.{early_passed, all_passed, length_right, none_there}
use Rattle.answer.proofs.Meets.{written_done}
use Rattle.hamming.specs.Code.{checks_of}
use Rattle.sizes.specs.Sizes.{words, blocks_of}
use Rattle.line.proofs.CaptureLaws.{in_frames}
use Rattle.line_order.specs.Order.{word_in}
use Rattle.code.specs.Code.{capture_of}
use Rattle.code.proofs.Coding.{capture_long}
use Rattle.edit_spec.specs.Edit.{listed, list_of, client_spare_set, fails, edit_early_rows, edit_late_rows, edit_answer, edited, edit_leaves}
use Rattle.edit_spec.proofs.Listing.{listed_holding, holding_listed}
use Rattle.edit_spec.proofs.Promises.{list_is, byte_kept}
use Rattle.demand_laws.specs.Demand3.{EditInput, new_info, new_parity, Demand3}
use Rattle.demand_laws.proofs.Demand2.{clean}
use Rattle.demand_laws.proofs.EditLaws.{coded_words, edit_is_coding}

module _ (N m0 b : ℕ) (bits parity info par list : List ℕ) where
  abbrev cap : List ℕ
  cap = capture_of N m0 info par

  abbrev listed_count : ℕ
  listed_count = count (listed N b) (words N)

  -- the edited input coded afresh, and the list
  abbrev afresh : List ℕ × List ℕ
  afresh = (capture_of N m0 (new_info N b bits info) (new_parity N b parity par), list_of N b ++ drop listed_count list)

  pub edited_afresh : edited N b bits parity cap list ≡ afresh
  edited_afresh = rw (edit_is_coding N m0 b bits parity info par)

  -- every word of a coded capture passes its checks
  no_9 : (w : ℕ) → w < words N → fails N b cap w ≡ false
  unfolding fails
  no_9 w h = by (listed N b w)
    where
      by : (t : Bool) → t && not (eqb (checks_of (word_in cap w)) 0) ≡ false
      by true = ap not (eq-eqb (checks_of (word_in cap w)) 0 (ap checks_of (coded_words N m0 b bits parity info par w h) ∙ clean N m0 info par (λ x. 0) w))
      by false = refl

  later_passed : Passed (edit_late_rows N b cap)
  unfolding edit_late_rows Passed RowPassed
  later_passed = (none_there (words N) (fails N b cap) no_9, tt)

  -- number 9 does not apply
  pub later_done : answer_of (edit_late_rows N b cap) listed_count ≡ done listed_count
  later_done = all_passed (edit_late_rows N b cap) listed_count later_passed

  module _ (input : EditInput N b bits parity list) where
    first_passed : Passed (edit_early_rows N b (length bits) (length parity) (length cap) (length list) (client_spare_set bits))
    unfolding edit_early_rows Passed RowPassed NoFault
    first_passed =
        let cap_long = length_right (capture_long N m0 info par) in (
          in_frames N input.frames (lt-ltb b (blocks_of N) input.block),
          (
            (length_right input.bits_long, (length_right input.parity_long, (cap_long, (length_right input.list_long, tt)))),
            ((input.spare, tt), tt),
          ),
        )

    edit_answers : edit_answer N b bits parity cap list ≡ done listed_count
    unfolding edit_answer
    edit_answers =
        early_passed (edit_early_rows N b (length bits) (length parity) (length cap) (length list) (client_spare_set bits)) (edit_late_rows N b cap) listed_count
        first_passed
        ∙ later_done

    edit_leaves_law : edit_leaves N b bits parity cap list ≡ afresh
    unfolding edit_leaves
    edit_leaves_law =
        written_done (edit_answer N b bits parity cap list) (edited N b bits parity cap list) (cap, list) (ap (λ (a : Answer). a.number) edit_answers)
        ∙ edited_afresh

pub demand_3 : (N m0 b : ℕ) (bits parity info par list : List ℕ) → EditInput N b bits parity list → Demand3 N m0 b bits parity info par list
demand_3 N m0 b bits parity info par list input = record {
  edits = record { answer = edit_answers N m0 b bits parity info par list input; buffers = edit_leaves_law N m0 b bits parity info par list input };
  lists = list_is N b input.block;
  holding = λ w. (listed_holding N b w, holding_listed N b w);
  kept = λ i h n.
      ap (λ (s : List ℕ). get_or s i 0) (sym (edit_is_coding N m0 b bits parity info par)) ∙ byte_kept N b bits parity (capture_of N m0 info par) i h n;
}
