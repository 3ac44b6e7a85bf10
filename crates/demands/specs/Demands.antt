-- The customer's demands as contracts of a client that calls the coder and sees only its promises: the answer, and every byte of lent memory, for
-- any numbers and any buffers. Demand 1 is `Demand1` of answer.specs.Demand1 at each call's rows; the round trip is gmp_map.specs.RoundTrip.
-- Assumes nothing: these are definitions.
use Rattle.std.specs.Prelude.{ℕ, false, List, [], ◌∷◌, ◌++◌, length, get_or, drop}
use Rattle.prelude.specs.Loops.{count}
use Rattle.answer.specs.Numbers.{wrong_length}
use Rattle.answer.specs.Rows.{buffers, wrong, answer_of}
use Rattle.answer.specs.Outcomes.{Outcome, written, and_then}
use Rattle.answer.specs.declared.Answer.{Answer}
use Rattle.sizes.specs.Sizes.{word_bits, words, info_length, parity_length, capture_length}
use Rattle.code.specs.Code.{capture_of, code_answer}
use Rattle.edit_spec.specs.Edit.{listed, list_of, client_spare_set, edit_early_rows}
use Rattle.demand_laws.specs.Demand2.{flipped, how_many}
use Rattle.demand_laws.specs.Demand3.{new_info, new_parity}

-- the flips that a list of numbers names: entry w for word w, and none past its end
abbrev pub flips_of : List ℕ → ℕ → ℕ
flips_of flips w = get_or flips w word_bits

-- what reading answers to a capture that was coded and had bits flipped: of its three buffers the capture has its length, and nothing but the length of one of
-- the others is refused
unfoldable pub flipped_answer : ℕ → List ℕ → List ℕ → List ℕ → Answer
flipped_answer N flips info₀ par₀ =
    answer_of (buffers wrong_length (false ∷ wrong (info_length N) (length info₀) ∷ wrong (parity_length N) (length par₀) ∷ []) ∷ [])
    (how_many N (flips_of flips))

-- DEMAND 2: coded, one bit flipped in each word that has one named, and read. The answer is coding's refusal, or that of reading: the count of such words
unfoldable pub code_read_answer : ℕ → ℕ → List ℕ → List ℕ → List ℕ → List ℕ → List ℕ → List ℕ → Answer
code_read_answer N m0 info par flips cap info₀ par₀ =
    and_then (code_answer N m0 info par cap) (flipped_answer N flips info₀ par₀)

-- what is left in the capture and in the two buffers, which held info₀ and par₀: where all was done, the input itself
unfoldable pub code_read_leaves : ℕ → ℕ → List ℕ → List ℕ → List ℕ → List ℕ → List ℕ → List ℕ → List ℕ × (List ℕ × List ℕ)
code_read_leaves N m0 info par flips cap info₀ par₀ =
    written (code_answer N m0 info par cap) (
      flipped N (flips_of flips) (capture_of N m0 info par),
      written (flipped_answer N flips info₀ par₀) (info, par) (info₀, par₀),
    )
    (cap, (info₀, par₀))

abbrev pub CodesAndReads : ℕ → ℕ → List ℕ → List ℕ → List ℕ → List ℕ → List ℕ → List ℕ → Answer → List ℕ × (List ℕ × List ℕ) → Type 0
CodesAndReads N m0 info par flips cap info₀ par₀ r left =
    Outcome (code_read_answer N m0 info par flips cap info₀ par₀) (code_read_leaves N m0 info par flips cap info₀ par₀) r left

-- what an edit answers to a capture that was coded: the capture has its length, and number 9 does not apply
unfoldable pub coded_edit_answer : ℕ → ℕ → List ℕ → List ℕ → List ℕ → Answer
coded_edit_answer N b bits parity list =
    answer_of (edit_early_rows N b (length bits) (length parity) (capture_length N) (length list) (client_spare_set bits)) (count (listed N b) (words N))

-- DEMAND 3: coded, and a client block edited with its FEC block's parity. The answer is coding's refusal, or that of the edit: the count of listed words
unfoldable pub code_edit_answer : ℕ → ℕ → ℕ → List ℕ → List ℕ → List ℕ → List ℕ → List ℕ → List ℕ → Answer
code_edit_answer N m0 b info par bits parity cap list = and_then (code_answer N m0 info par cap) (coded_edit_answer N b bits parity list)

-- what is left in the capture and in the list: where all was done, the edited input coded afresh, and the listed words
unfoldable pub code_edit_leaves : ℕ → ℕ → ℕ → List ℕ → List ℕ → List ℕ → List ℕ → List ℕ → List ℕ → List ℕ × List ℕ
code_edit_leaves N m0 b info par bits parity cap list =
    written (code_answer N m0 info par cap)
    (written (coded_edit_answer N b bits parity list)
    (capture_of N m0 (new_info N b bits info) (new_parity N b parity par), list_of N b ++ drop (count (listed N b) (words N)) list)
    (capture_of N m0 info par, list))
    (cap, list)

abbrev pub CodesAndEdits : ℕ → ℕ → ℕ → List ℕ → List ℕ → List ℕ → List ℕ → List ℕ → List ℕ → Answer → List ℕ × List ℕ → Type 0
CodesAndEdits N m0 b info par bits parity cap list r left =
    Outcome (code_edit_answer N m0 b info par bits parity cap list) (code_edit_leaves N m0 b info par bits parity cap list) r left
