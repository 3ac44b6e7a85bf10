-- The lengths of the buffers of a call, for any numbers at all. Assumes nothing: these are definitions.
use Rattle.std.specs.Prelude.{ℕ, ◌+◌, ◌≤◌, cond, ◌≡◌, ltb}
use Rattle.sizes.specs.Sizes.{most_frames, parity_length, capture_length}

-- the two spaces: a byte more than the longest capture has, which no other buffer is longer than, and than the longest parity
abbrev pub large_bytes : ℕ
large_bytes = capture_length most_frames + 1

abbrev pub small_bytes : ℕ
small_bytes = parity_length most_frames + 1

-- r is the length that is stated, and no more than the greatest of its kind
pub record Stated (greatest stated r : ℕ) : Type 0 where
  pub is : r ≡ stated
  pub fits : r ≤ greatest

-- the length that is stated for n, which is 0 where n is more than the greatest number that is allowed
abbrev pub up_to : ℕ → (ℕ → ℕ) → ℕ → ℕ
up_to most stated n = cond (ltb most n) 0 (stated n)
