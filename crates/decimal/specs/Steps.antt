-- Bytes read one at a time, up to a bound: what is kept is small, however many there are. Assumes nothing: these are definitions.
use Rattle.std.specs.Prelude.{ℕ, ◌+◌, ◌-◌, ◌*◌, min, Bool, cond, Option, Some, None, List, ltb, get_or}
use Rattle.decimal.specs.Digits.{is_digit}

-- what is kept of bytes: nothing where they are not all digits, and else their number v, or `most` where it is above that
unfoldable pub seen : ℕ → Bool → ℕ → Option ℕ
seen most all v = cond all (Some (min v most)) None

-- one byte more
unfoldable pub next_value : ℕ → ℕ → ℕ → Option ℕ
next_value most v b = cond (ltb most v) None (cond (is_digit b) (Some (min (v * 10 + (b - 48)) most)) None)

-- byte k of s more
abbrev pub next_at : ℕ → List ℕ → ℕ → Option ℕ → Option ℕ
next_at most s k (Some v) = next_value most v (get_or s k 0)
next_at most s k None = None
