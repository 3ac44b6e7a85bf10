-- THE ROUND TRIP of windows: groups are mapped into a window w, and the window is unmapped into b. What is answered and what is left in both lent
-- buffers, for any numbers and any buffers. Document 01, "GMP places": "Unmapping gives the groups back and ignores stuff."
-- `round_trip` of proofs/RoundTrip.antt. Assumes nothing: these are definitions.
use Rattle.std.specs.Prelude.{ℕ, cond, List, length}
use Rattle.bits.specs.Bits.{pack}
use Rattle.answer.specs.Numbers.{wrong_length}
use Rattle.answer.specs.Outcomes.{written, and_then}
use Rattle.answer.specs.Rows.{done, refused, wrong, buffer_place}
use Rattle.answer.specs.declared.Answer.{Answer}
use Rattle.gmp.specs.Places.{data_from}
use Rattle.sizes.specs.Sizes.{window_bytes}
use Rattle.gmp_window.specs.Answers.{map_answer}
use Rattle.gmp_map.specs.Groups.{window_bit}

-- what unmapping answers to a window that was mapped: b, its second buffer, must be as long as the groups, and nothing else is refused
unfoldable pub back_answer : ℕ → ℕ → ℕ → List ℕ → List ℕ → Answer
back_answer c f n g b = cond (wrong (length g) (length b)) (refused wrong_length (buffer_place 2)) (done (data_from c f n))

-- the answer: of mapping where that is refused, and else of unmapping
unfoldable pub map_unmap_answer : ℕ → ℕ → ℕ → List ℕ → List ℕ → List ℕ → Answer
map_unmap_answer c f n g w b = and_then (map_answer c f n g (length w)) (back_answer c f n g b)

-- what is left in w and b: nothing is changed where mapping is refused; else w has the mapped bytes, and b the groups themselves, or what it had
-- where it is refused
unfoldable pub map_unmap_leaves : ℕ → ℕ → ℕ → List ℕ → List ℕ → List ℕ → List ℕ × List ℕ
map_unmap_leaves c f n g w b =
    written (map_answer c f n g (length w)) (pack (window_bytes n) (window_bit c f g), written (back_answer c f n g b) g b) (w, b)
