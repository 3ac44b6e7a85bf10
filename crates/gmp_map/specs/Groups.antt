-- Document 01, "GMP places": what stands in the places of a window, and where its data groups stand. Assumes nothing: these are definitions.
use Rattle.std.specs.Prelude.{ℕ, suc, ◌+◌, ◌*◌, ◌/◌, ◌%◌, cond, List, ltb, length}
use Rattle.bits.specs.Bits.{bit_at, pack}
use Rattle.prelude.specs.Loops.{first}
use Rattle.answer.specs.Outcomes.{Outcome, written}
use Rattle.answer.specs.declared.Answer.{Answer}
use Rattle.gmp.specs.Places.{is_data, data_from}
use Rattle.sizes.specs.Sizes.{group_bits, group_bytes, window_bytes}
use Rattle.gmp_window.specs.Answers.{map_answer, unmap_answer}

-- bit i of the window: it belongs to place f + i / group_bits, which holds the next data group, or stuff, "all zero"
unfoldable pub window_bit : ℕ → ℕ → List ℕ → ℕ → ℕ
window_bit c f g i =
    cond (is_data c (f + i / group_bits)) (bit_at g (group_bits * data_from c f (i / group_bits) + i % group_bits)) 0

-- the place of data group q, counted from f: the first with which more than q data places have come. It is data, with q data places before it:
-- `stands` of proofs/Ranks.antt
unfoldable pub group_place : ℕ → ℕ → ℕ → ℕ → ℕ
group_place c f n q = first (λ m. ltb q (data_from c f (suc m))) n

-- bit i of the groups: it belongs to group i / group_bits, which is the whole of its place. Stuff is not looked at; behind the last group bits are zero
unfoldable pub groups_bit : ℕ → ℕ → ℕ → List ℕ → ℕ → ℕ
groups_bit c f n w i =
    cond (ltb (i / group_bits) (data_from c f n)) (bit_at w (group_bits * group_place c f n (i / group_bits) + i % group_bits)) 0

-- the contract of `map`, where w is the window before and `out` the window after
abbrev pub Mapped : ℕ → ℕ → ℕ → List ℕ → List ℕ → Answer → List ℕ → Type 0
Mapped c f n g w r out =
    Outcome (map_answer c f n g (length w)) (written (map_answer c f n g (length w)) (pack (window_bytes n) (window_bit c f g)) w) r out

-- the contract of `unmap`, where g holds the groups' bytes before and `out` those after
abbrev pub Unmapped : ℕ → ℕ → ℕ → List ℕ → List ℕ → Answer → List ℕ → Type 0
Unmapped c f n w g r out =
    Outcome (unmap_answer c f n (length w) (length g))
    (written (unmap_answer c f n (length w) (length g)) (pack (group_bytes (data_from c f n)) (groups_bit c f n w)) g) r out
