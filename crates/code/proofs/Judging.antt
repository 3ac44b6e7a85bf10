-- The table of coding: its answer is exact, and what a granted call has shown. Assumes nothing.
use Prim.Native.Nat.{ℕ}
use mathlib.Core.Bool.{true}
use mathlib.Core.Path.{◌≡◌, refl, sym, ap, ◌∙◌}
use mathlib.Core.List.{List, [], ◌∷◌}
use lib.ListN.{length}
use Rattle.std.specs.Prelude.{Result, Ok, Err}
use Rattle.std.proofs.lemmas.Result.{IfErr-at_err}
use Rattle.answer.specs.Numbers.{all_done, wrong_length}
use Rattle.answer.specs.Rows.{Row, done, refused, wrong, FirstFault, row_number, answer_of, rising}
use Rattle.answer.specs.Demand1.{Exactly, Demand1}
use Rattle.answer.specs.Outcomes.{Outcome}
use Rattle.answer.specs.Steps.{NoFault, RowPassed, Passed}
use Rattle.answer.specs.declared.Answer.{Answer}
use Rattle.answer.specs.Refusals.{answered, refused_at}
use Rattle.answer.specs.declared.refusal.Refused.{Refused}
use Rattle.answer.proofs.Results.{same_numbers}
use Rattle.answer.proofs.Table.{exactly, demand_1}
use Rattle.answer.proofs.Buffers.{which_buffer}
use Rattle.answer.proofs.Turns.{in_turn_law, passed, right_length}
use Rattle.sizes.specs.Sizes.{words, info_length, parity_length, capture_length}
use Rattle.line.specs.Fec.{mbas_allowed}
use Rattle.line.proofs.CaptureLaws.{frames_in}
use Rattle.code.specs.Code.{capture_of, code_rows, code_answer, code_leaves}
use Rattle.code.specs.Steps.{Granted}

pub code_rise : (N m0 info par cap : ℕ) → rising 0 (code_rows N m0 info par cap) ≡ true
unfolding rising code_rows row_number
code_rise N m0 info par cap = refl

module _ (N m0 : ℕ) (info par cap : List ℕ) where
  abbrev rows : List Row
  rows = code_rows N m0 (length info) (length par) (length cap)

  -- DEMAND 1 of coding: the answer, and the capture
  pub code_exactly : Exactly rows (words N) (code_answer N m0 info par cap)
  unfolding code_answer
  code_exactly = exactly rows (words N) (code_rise N m0 (length info) (length par) (length cap))

  -- number 2 names the first of information, parity and capture whose length is wrong
  pub code_names : (code_answer N m0 info par cap).number ≡ wrong_length
      → FirstFault 1 (wrong (info_length N) (length info) ∷ wrong (parity_length N) (length par) ∷ wrong (capture_length N) (length cap) ∷ [])
      (code_answer N m0 info par cap).place
  unfolding code_rows
  code_names = which_buffer (_ ∷ []) wrong_length _ [] (words N) (code_rise N m0 (length info) (length par) (length cap)) code_exactly

  pub code_demand_1 : {r : Answer} {left : List ℕ} → Outcome (code_answer N m0 info par cap) (code_leaves N m0 info par cap) r left
      → Demand1 rows (words N) (capture_of N m0 info par) cap r left
  unfolding code_answer code_leaves
  code_demand_1 o = demand_1 rows (words N) (capture_of N m0 info par) cap (code_rise N m0 (length info) (length par) (length cap)) o

  pub code_granted : {r : Answer} → r ≡ answer_of rows (words N) → r.number ≡ all_done → Granted N info par cap
  unfolding code_rows Passed RowPassed NoFault
  code_granted e z =
      let p = passed rows (done (words N)) (code_rise N m0 (length info) (length par) (length cap)) (e ∙ in_turn_law rows (words N)) z in
      record {
        few = (frames_in N (mbas_allowed m0) refl p.0).few;
        information = right_length p.1.0.0;
        parity = right_length p.1.0.1.0;
        capture = right_length
            p.1.0.1.1.0;
      }
