-- Document 02, M-100: "Writing refuses by 1 a count, kind, offset or length outside its field". Writing is handed the count, the kinds and the
-- lengths, and makes the offsets. Assumes nothing: these are definitions.
use Rattle.std.specs.Prelude.{ℕ, min, Bool, ◌||◌, List, [], ◌∷◌, ltb, length, get_or}
use Rattle.prelude.specs.Loops.{first}
use Rattle.answer.specs.Numbers.{outside_set, wrong_length}
use Rattle.answer.specs.Rows.{Row, whole, buffers, wrong, answer_of}
use Rattle.answer.specs.Outcomes.{written}
use Rattle.answer.specs.declared.Answer.{Answer}
use Rattle.archive_spec.specs.File.{head_bytes, field_most, start_of, head_of, count_outside, kind_outside}

-- number e of a list
abbrev pub nth : List ℕ → ℕ → ℕ
nth s e = get_or s e 0

-- a test picks some number below n
abbrev pub any_below : (ℕ → Bool) → ℕ → Bool
any_below p n = ltb (first p n) n

-- entry e has a kind, a length or an offset outside its field
unfoldable pub entry_outside : ℕ → (ℕ → ℕ) → (ℕ → ℕ) → ℕ → Bool
entry_outside n kind len e = kind_outside (kind e) || (ltb field_most (len e) || ltb field_most (start_of n len e))

-- the entries below the count that were handed in: both lists reach them
abbrev pub handed_in : ℕ → List ℕ → List ℕ → ℕ
handed_in n kinds lengths = min n (min (length kinds) (length lengths))

unfoldable pub write_outside : ℕ → List ℕ → List ℕ → Bool
write_outside n kinds lengths = count_outside n || any_below (entry_outside n (nth kinds) (nth lengths)) (handed_in n kinds lengths)

-- the table of writing; its buffers are the two lists and the head
abbrev pub write_rows : ℕ → List ℕ → List ℕ → ℕ → List Row
write_rows n kinds lengths head =
    whole outside_set (write_outside n kinds lengths)
    ∷ buffers wrong_length (wrong n (length kinds) ∷ wrong n (length lengths) ∷ wrong (head_bytes n) head ∷ [])
    ∷ []

-- the count is that of the head's bytes
unfoldable pub write_answer : ℕ → List ℕ → List ℕ → ℕ → Answer
write_answer n kinds lengths head = answer_of (write_rows n kinds lengths head) (head_bytes n)

-- what the head holds afterwards
unfoldable pub write_leaves : ℕ → List ℕ → List ℕ → List ℕ → List ℕ
write_leaves n kinds lengths head = written (write_answer n kinds lengths (length head)) (head_of n (nth kinds) (nth lengths)) head
