-- Document 01, "Captures": coding. One definition for the answer and one for every byte of the capture, for any input.
-- Assumes nothing: these are definitions.
use Rattle.std.specs.Prelude.{ℕ, not, ◌&&◌, List, [], ◌∷◌, length}
use Rattle.answer.specs.Numbers.{outside_set, wrong_length}
use Rattle.answer.specs.Rows.{Row, whole, buffers, wrong, answer_of}
use Rattle.answer.specs.Outcomes.{written}
use Rattle.answer.specs.declared.Answer.{Answer}
use Rattle.sizes.specs.Sizes.{info_length, parity_length, capture_length, words}
use Rattle.line.specs.Captures.{super_allowed}
use Rattle.line.specs.Fec.{mbas_allowed, fec_bit}
use Rattle.line_order.specs.Order.{laid}
use Rattle.line.specs.Words.{words_of}

-- the capture of N super frames, coded and flushed: FEC blocks, super frames, elements, slots, words, symbols
unfoldable pub capture_of : ℕ → ℕ → List ℕ → List ℕ → List ℕ
capture_of N m0 info par = laid N (words_of N (fec_bit m0 info par))

-- the rows of the table that apply to coding, from the numbers and the buffers' lengths; buffers as document 01 names them, inputs first
unfoldable pub code_rows : ℕ → ℕ → ℕ → ℕ → ℕ → List Row
code_rows N m0 info par cap =
    whole outside_set (not (super_allowed N && mbas_allowed m0))
    ∷ buffers wrong_length (wrong (info_length N) info ∷ wrong (parity_length N) par ∷ wrong (capture_length N) cap ∷ [])
    ∷ []

-- the answer: its count is the number of words written
unfoldable pub code_answer : ℕ → ℕ → List ℕ → List ℕ → List ℕ → Answer
code_answer N m0 info par cap = answer_of (code_rows N m0 (length info) (length par) (length cap)) (words N)

-- what the capture holds afterwards
unfoldable pub code_leaves : ℕ → ℕ → List ℕ → List ℕ → List ℕ → List ℕ
code_leaves N m0 info par cap = written (code_answer N m0 info par cap) (capture_of N m0 info par) cap
