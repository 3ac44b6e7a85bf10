-- From the promises of the coder to the demands. Assumes nothing.
use Prim.Native.Nat.{ℕ}
use mathlib.Core.Bool.{false, ◌&&◌}
use mathlib.Core.Path.{◌≡◌, sym, ap, ◌∙◌}
use mathlib.Core.List.{List, [], ◌∷◌, ◌++◌}
use borrow.Author.Tests.{not-false}
use lib.ListN.{length, drop}
use Rattle.bits.specs.Bits.{Bytes}
use Rattle.prelude.specs.Loops.{count}
use Rattle.prelude.proofs.Common.{and_left, and_right}
use Rattle.answer.specs.Numbers.{all_done, wrong_length}
use Rattle.answer.specs.Rows.{Row, buffers, wrong}
use Rattle.answer.specs.Outcomes.{Outcome, written}
use Rattle.answer.specs.Steps.{faults_then, row_then, in_turn, NoFault, RowPassed, Passed}
use Rattle.answer.specs.declared.Answer.{Answer}
use Rattle.answer.proofs.Turns.{in_turn_law, turn_late, all_passed, granted_passed, right_length, length_right}
use Rattle.answer.proofs.Meets.{written_done, written_refused, stops_there, goes_further}
use Rattle.sizes.specs.Sizes.{words, info_length, parity_length, capture_length}
use Rattle.line.specs.Captures.{super_allowed}
use Rattle.line.proofs.CaptureLaws.{in_frames}
use Rattle.line.specs.Fec.{mbas_allowed}
use Rattle.code.specs.Code.{capture_of, code_rows, code_answer, code_leaves}
use Rattle.code.proofs.Judging.{code_rise}
use Rattle.code.proofs.Coding.{capture_long}
use Rattle.read_spec.specs.Read.{is_seen, read_early_rows, read_late_rows, read_answer, read_leaves}
use Rattle.edit_spec.specs.Edit.{listed, list_of, client_spare_set, edit_early_rows, edit_late_rows, edit_answer, edit_leaves}
use Rattle.demand_laws.specs.Demand2.{Input, flipped, how_many, ReadsBack}
use Rattle.demand_laws.specs.Demand3.{new_info, new_parity, EditInput, EditsAsCoded}
use Rattle.demand_laws.proofs.Demand2.{cap_long, coded_late_done, given_input, demand_2}
use Rattle.demand_laws.proofs.Demand3.{later_done, edited_afresh, demand_3}
use Rattle.demands.specs.Demands.{flips_of, flipped_answer, code_read_answer, code_read_leaves, CodesAndReads}
use Rattle.demands.specs.Demands.{coded_edit_answer, code_edit_answer, code_edit_leaves, CodesAndEdits}
use Rattle.demands.specs.Steps.{flipped_bytes}
use Rattle.demands.proofs.Flipping.{flipped_bytes_law}

-- ---- what reading and an edit answer to a coded capture, whatever the buffers are

module _ (N m0 : ℕ) (info par flips info₀ par₀ : List ℕ) (input : Input N m0 info par) where
  abbrev cap : List ℕ
  cap = flipped N (flips_of flips) (capture_of N m0 info par)

  -- of numbers 1 and 2 only the length of a buffer to be filled can apply
  answers_any : read_answer N m0 cap info₀ par₀ ≡ flipped_answer N flips info₀ par₀
  unfolding read_answer read_early_rows flipped_answer in_turn row_then faults_then
  answers_any =
      turn_late (read_early_rows N m0 (length cap) (length info₀) (length par₀)) (read_late_rows N m0 cap) (count (is_seen cap) (words N))
      ∙ rw (in_frames N input.frames input.number, length_right (cap_long N m0 info par (flips_of flips)), coded_late_done N m0 info par (flips_of flips))
      (sym (in_turn_law (buffers wrong_length (false ∷ wrong (info_length N) (length info₀) ∷ wrong (parity_length N) (length par₀) ∷ []) ∷ [])
      (how_many N (flips_of flips))))

  leaves_any : read_leaves N m0 cap info₀ par₀ ≡ written (flipped_answer N flips info₀ par₀) (info, par) (info₀, par₀)
  unfolding read_leaves
  leaves_any = rw (answers_any, given_input N m0 info par (flips_of flips) input)

module _ (N m0 b : ℕ) (info par bits parity list : List ℕ) where
  abbrev early : List Row
  early = edit_early_rows N b (length bits) (length parity) (capture_length N) (length list) (client_spare_set bits)

  edit_any : edit_answer N b bits parity (capture_of N m0 info par) list ≡ coded_edit_answer N b bits parity list
  unfolding edit_answer coded_edit_answer
  edit_any =
      let c = count (listed N b) (words N) in
      let late = edit_late_rows N b (capture_of N m0 info par) in
      rw (capture_long N m0 info par)
      (turn_late early late c ∙ ap (in_turn early) (later_done N m0 b bits parity info par list) ∙ sym (in_turn_law early c))

  edit_leaves_any : edit_leaves N b bits parity (capture_of N m0 info par) list
      ≡ written (coded_edit_answer N b bits parity list)
      (capture_of N m0 (new_info N b bits info) (new_parity N b parity par), list_of N b ++ drop (count (listed N b) (words N)) list)
      (capture_of N m0 info par, list)
  unfolding edit_leaves
  edit_leaves_any = rw (edit_any, edited_afresh N m0 b bits parity info par list)

-- ---- what coding has answered and left

module _ (N m0 : ℕ) (info par cap : List ℕ) {m : Answer} {out : List ℕ}
    (coding : Outcome (code_answer N m0 info par cap) (code_leaves N m0 info par cap) m out) where
  abbrev says : Answer
  says = code_answer N m0 info par cap

  pub refused_kept : (m.number ≡ all_done → ⊥) → out ≡ cap
  unfolding code_leaves
  refused_kept h = coding.kept ∙ written_refused says (capture_of N m0 info par) cap (λ z. h (ap (λ (x : Answer). x.number) coding.told ∙ z))

  module _ (z : m.number ≡ all_done) where
    pub was_coded : out ≡ capture_of N m0 info par
    unfolding code_leaves
    was_coded = coding.kept ∙ written_done says (capture_of N m0 info par) cap (ap (λ (x : Answer). x.number) (sym coding.told) ∙ z)

    pub input : Bytes info → Bytes par → Input N m0 info par
    unfolding code_answer code_rows Passed RowPassed NoFault
    input bi bp =
        let p =
        granted_passed (code_rows N m0 (length info) (length par) (length cap)) (words N) (code_rise N m0 (length info) (length par) (length cap))
        coding.told z in
        let q = not-false (super_allowed N && mbas_allowed m0) p.0 in
        record {
          frames = and_left (super_allowed N) (mbas_allowed m0) q;
          number = and_right (super_allowed N) (mbas_allowed m0) q;
          info_long = right_length p.1.0.0;
          info_are_bytes = bi;
          parity_long = right_length p.1.0.1.0;
          parity_are_bytes = bp;
        }

  -- ---- demand 2

  module _ (flips info₀ par₀ : List ℕ) where
    pub read_stops : (m.number ≡ all_done → ⊥)
        → CodesAndReads N m0 info par flips cap info₀ par₀ m (out, (info₀, par₀))
    unfolding code_read_answer code_read_leaves
    read_stops h = stops_there _ _ coding.told h (ap (λ (s : List ℕ). (s, (info₀, par₀))) (refused_kept h))

    pub read_follows : {got : List ℕ} {r : Answer} {left : List ℕ × List ℕ} → Bytes info → Bytes par → m.number ≡ all_done → got ≡ flipped_bytes flips out
        → Outcome (read_answer N m0 got info₀ par₀) (read_leaves N m0 got info₀ par₀) r left
        → CodesAndReads N m0 info par flips cap info₀ par₀ r (got, left)
    unfolding code_read_answer code_read_leaves
    read_follows {got} bi bp z flipping o =
        let made = was_coded z in
        let c = flips_of flips in
        let i = input z bi bp in
        let q : got ≡ flipped N c (capture_of N m0 info par) =
        flipping ∙ flipped_bytes_law N flips out (ap length made ∙ capture_long N m0 info par) ∙ ap (flipped N c) made in
        let a = ap (λ (s : List ℕ). read_answer N m0 s info₀ par₀) q ∙ answers_any N m0 info par flips info₀ par₀ i in
        let l = ap (λ (s : List ℕ). read_leaves N m0 s info₀ par₀) q ∙ leaves_any N m0 info par flips info₀ par₀ i in
        goes_further _ coding.told z (record { told = o.told ∙ a; kept = rw (q, o.kept, l) })

  -- ---- demand 3

  module _ (b : ℕ) (bits parity list : List ℕ) where
    pub edit_stops : (m.number ≡ all_done → ⊥)
        → CodesAndEdits N m0 b info par bits parity cap list m (out, list)
    unfolding code_edit_answer code_edit_leaves
    edit_stops h = stops_there _ _ coding.told h (ap (λ (s : List ℕ). (s, list)) (refused_kept h))

    pub edit_follows : {r : Answer} {left : List ℕ × List ℕ} → m.number ≡ all_done
        → Outcome (edit_answer N b bits parity out list) (edit_leaves N b bits parity out list) r left
        → CodesAndEdits N m0 b info par bits parity cap list r left
    unfolding code_edit_answer code_edit_leaves
    edit_follows z o =
        let q = was_coded z in
        goes_further _ coding.told z (record {
          told = o.told ∙ ap (λ (s : List ℕ). edit_answer N b bits parity s list) q ∙ edit_any N m0 b info par bits parity list;
          kept = o.kept ∙ ap (λ (s : List ℕ). edit_leaves N b bits parity s list) q ∙ edit_leaves_any N m0 b info par bits parity list;
        })

-- ---- of every input that document 01 allows the client's contracts say demand 2 and demand 3 themselves

module _ (N m0 : ℕ) (info par cap : List ℕ) (allowed : Input N m0 info par) (long : length cap ≡ capture_length N) where
  abbrev coding : Answer
  coding = code_answer N m0 info par cap

  code_passed : Passed (code_rows N m0 (length info) (length par) (length cap))
  unfolding code_rows Passed RowPassed NoFault
  code_passed =
      (in_frames N allowed.frames allowed.number, ((length_right allowed.info_long, (length_right allowed.parity_long, (length_right long, tt))), tt))

  code_done : coding.number ≡ all_done
  unfolding code_answer
  code_done = ap (λ (x : Answer). x.number) (all_passed (code_rows N m0 (length info) (length par) (length cap)) (words N) code_passed)

  pub is_demand_2 : (flips info₀ par₀ : List ℕ) {r : Answer} {c : List ℕ} {left : List ℕ × List ℕ} → length info₀ ≡ info_length N
      → length par₀ ≡ parity_length N → CodesAndReads N m0 info par flips cap info₀ par₀ r (c, left)
      → ReadsBack info par (how_many N (flips_of flips)) r left
  unfolding code_read_answer code_read_leaves
  is_demand_2 flips info₀ par₀ i₀ p₀ o =
      let d = demand_2 N m0 info par allowed (flips_of flips) info₀ par₀ i₀ p₀ in
      record {
        answer = o.told ∙ written_done coding _ _ code_done ∙ sym (answers_any N m0 info par flips info₀ par₀ allowed) ∙ d.answer;
        buffers = ap (λ (x : List ℕ × (List ℕ × List ℕ)). x.1) (o.kept ∙ written_done coding _ _ code_done)
            ∙ sym (leaves_any N m0 info par flips info₀ par₀ allowed) ∙ d.buffers;
      }

  pub is_demand_3 : (b : ℕ) (bits parity list : List ℕ) {r : Answer} {left : List ℕ × List ℕ} → EditInput N b bits parity list
      → CodesAndEdits N m0 b info par bits parity cap list r left → EditsAsCoded N m0 b bits parity info par list r left
  unfolding code_edit_answer code_edit_leaves
  is_demand_3 b bits parity list edit o =
      let d = (demand_3 N m0 b bits parity info par list edit).edits in
      record {
        answer = o.told ∙ written_done coding _ _ code_done ∙ sym (edit_any N m0 b info par bits parity list) ∙ d.answer;
        buffers = o.kept ∙ written_done coding _ _ code_done ∙ sym (edit_leaves_any N m0 b info par bits parity list) ∙ d.buffers;
      }
