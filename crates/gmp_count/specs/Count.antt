-- Document 01, "GMP places": "A program reads a count ..; for a count above 10,220 or a first line that is empty or not all decimal digits it
-- writes the one line `refused 1`." The first line ends at a line feed or at the end of the input. Assumes nothing: these are definitions.
use Rattle.std.specs.Prelude.{ℕ, Bool, not, ◌||◌, List, [], ◌∷◌, ltb, eqb, length, get_or}
use Rattle.prelude.specs.Loops.{first}
use Rattle.answer.specs.Numbers.{outside_set}
use Rattle.answer.specs.Rows.{whole, answer_of}
use Rattle.answer.specs.declared.Answer.{Answer}
use Rattle.decimal.specs.Digits.{all_digits, decimal}
use Rattle.sizes.specs.Sizes.{places}

-- byte k of the input is a line feed
abbrev pub is_feed : List ℕ → ℕ → Bool
is_feed s k = eqb (get_or s k 0) 10

-- the bytes of the first line
unfoldable pub first_length : List ℕ → ℕ
first_length s = first (is_feed s) (length s)

-- the line is empty, is not all digits, or is above P
abbrev pub no_count : List ℕ → ℕ → Bool
no_count s n = eqb n 0 || (not (all_digits s n) || ltb places (decimal s n))

-- what the input s answers: the count of its first line
unfoldable pub count_of : List ℕ → Answer
count_of s = answer_of (whole outside_set (no_count s (first_length s)) ∷ []) (decimal s (first_length s))
