-- Document 01, "GMP places": what a window of n places from place f on is, and the spare bits of its data groups. Assumes nothing: these are
-- definitions.
use Rattle.std.specs.Prelude.{ℕ, ◌+◌, ◌-◌, ◌*◌, ◌%◌, ◌≤◌, Bool, not, ◌&&◌, ◌||◌, ◌≡◌, List, ltb, eqb}
use Rattle.bits.specs.Bits.{num, bit_at}
use Rattle.gmp.specs.Places.{outside_stretch}
use Rattle.sizes.specs.Sizes.{places, group_bits}

-- "an odd first place f and an even number n ≥ 2 of places, ending at or before 10,220", and a count: one of these is not so
abbrev pub outside_window : ℕ → ℕ → ℕ → Bool
outside_window c f n = eqb (f % 2) 0 || (eqb (n % 2) 1 || (ltb n 2 || outside_stretch c f n))

-- the same as facts: all of it is so
pub record Window (c f n : ℕ) : Type 0 where
  pub count : c ≤ places
  pub odd : f % 2 ≡ 1
  pub even : n % 2 ≡ 0
  pub two : 2 ≤ n
  pub to : f + n - 1 ≤ places

-- "if d is odd, the last four bits are zero": they are not
unfoldable pub groups_spare_set : ℕ → List ℕ → Bool
groups_spare_set d g = eqb (d % 2) 1 && not (eqb (num 4 (bit_at g) (group_bits * d)) 0)
