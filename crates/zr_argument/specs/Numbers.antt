-- An argument as a number: one or more decimal digits and nothing else. Assumes nothing: these are definitions.
use Rattle.std.specs.Prelude.{ℕ, min, Bool, cond, not, ◌||◌, Option, Some, None, List, eqb, length}
use Rattle.decimal.specs.Digits.{all_digits, decimal}

-- a number above this is read as this
abbrev pub most : ℕ
most = 1000000

abbrev pub no_number : List ℕ → Bool
no_number s = eqb (length s) 0 || not (all_digits s (length s))

-- what the argument s is
unfoldable pub number_of : List ℕ → Option ℕ
number_of s = cond (no_number s) None (Some (min (decimal s (length s)) most))
