-- Buffers filled from a seed, and captures coded from them, for the programs. Assumes nothing: these are definitions.
use Rattle.std.specs.Prelude.{ℕ, ◌+◌, ◌*◌, ◌%◌, Bool, cond, List, ltb, length, take, drop}
use Rattle.prelude.specs.Lists.{tabulate}
use Rattle.sizes.specs.Sizes.{most_frames, info_length, parity_length}
use Rattle.answer.specs.Numbers.{wrong_length}
use Rattle.answer.specs.Rows.{refused, buffer_place}
use Rattle.answer.specs.declared.Answer.{Answer}
use Rattle.code.specs.Code.{code_answer, code_leaves}
use Rattle.buffer_sizes.specs.Lengths.{up_to}
use Rattle.test_data.specs.Generator.{bytes_from}

-- where the FEC blocks of n super frames count from
abbrev pub first_number : ℕ → ℕ
first_number n = 7 * (n % 9)

-- n bytes of a seed
abbrev pub seeded : ℕ → ℕ → List ℕ
seeded seed n = tabulate n (bytes_from seed)

-- the seed of n super frames
abbrev pub room_seed : ℕ → ℕ
room_seed n = 100 + n % 9

-- a room holds the information of n super frames and, behind it, their parity
abbrev pub info_room : ℕ → ℕ
info_room n = up_to most_frames info_length n

abbrev pub parity_room : ℕ → ℕ
parity_room n = up_to most_frames parity_length n

abbrev pub too_short : ℕ → List ℕ → Bool
too_short n room = ltb (length room) (info_room n + parity_room n)

abbrev pub room_info : ℕ → List ℕ → List ℕ
room_info n room = take (info_room n) room

abbrev pub room_parity : ℕ → List ℕ → List ℕ
room_parity n room = take (parity_room n) (drop (info_room n) room)

-- what coding it answers, and what the capture then holds
unfoldable pub room_answer : ℕ → List ℕ → List ℕ → Answer
room_answer n room cap = cond (too_short n room) (refused wrong_length (buffer_place 1)) (code_answer n (first_number n) (room_info n room) (room_parity n room) cap)

unfoldable pub room_leaves : ℕ → List ℕ → List ℕ → List ℕ
room_leaves n room cap = cond (too_short n room) cap (code_leaves n (first_number n) (room_info n room) (room_parity n room) cap)
