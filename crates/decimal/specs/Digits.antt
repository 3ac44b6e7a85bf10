-- Bytes that are decimal digits, and the number that they are. Document 01, "GMP places": "decimal digits". Assumes nothing: these are definitions.
use Rattle.std.specs.Prelude.{ℕ, ◌+◌, ◌-◌, ◌*◌, Bool, ◌&&◌, List, leb, eqb, get_or}
use Rattle.prelude.specs.Loops.{upto, count}

-- a byte is one of 0 .. 9
abbrev pub is_digit : ℕ → Bool
is_digit b = leb 48 b && leb b 57

abbrev pub digit_at : List ℕ → ℕ → Bool
digit_at s k = is_digit (get_or s k 0)

-- the first n bytes are all digits: n of them are
unfoldable pub all_digits : List ℕ → ℕ → Bool
all_digits s n = eqb (count (digit_at s) n) n

-- the number that the first n bytes are in decimal, however many
unfoldable pub decimal : List ℕ → ℕ → ℕ
decimal s n = upto (λ k v. v * 10 + (get_or s k 0 - 48)) 0 n
