-- What the small functions of `bits` answer, where that is more than one equation. Assumes nothing: these are definitions.
use Rattle.std.specs.Prelude.{ℕ, ◌<◌, ◌≡◌}

-- the same number, which a byte can hold
pub record Widened (x r : ℕ) : Type 0 where
  pub same : r ≡ x
  pub small : r < 256
