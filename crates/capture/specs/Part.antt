-- Document 01, "One FEC block": a caller may ask for the information of FEC block t; the answer is that part of the lent information itself,
-- or the empty part, and a second question answers the number and place. Assumes nothing: these are definitions.
use Rattle.std.specs.Prelude.{ℕ, ◌*◌, not, ◌&&◌, List, [], ◌∷◌, ltb, length, take, drop}
use Rattle.answer.specs.Numbers.{outside_set, wrong_length}
use Rattle.answer.specs.Rows.{Row, whole, buffers, wrong, answer_of}
use Rattle.answer.specs.Outcomes.{written}
use Rattle.answer.specs.declared.Answer.{Answer}
use Rattle.sizes.specs.Sizes.{info_bytes, fec_blocks, info_length}
use Rattle.line.specs.Captures.{super_allowed}

unfoldable pub part_rows : ℕ → ℕ → ℕ → List Row
part_rows N t info =
    whole outside_set (not (super_allowed N && ltb t (fec_blocks * N)))
    ∷ buffers wrong_length (wrong (info_length N) info ∷ [])
    ∷ []

-- the second question; the count of a granted request is 0
unfoldable pub part_answer : ℕ → ℕ → List ℕ → Answer
part_answer N t info = answer_of (part_rows N t (length info)) 0

-- the part
unfoldable pub part_of : ℕ → ℕ → List ℕ → List ℕ
part_of N t info = written (part_answer N t info) (take info_bytes (drop (info_bytes * t) info)) []
