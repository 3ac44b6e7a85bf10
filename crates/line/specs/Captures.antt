-- Document 01, "Captures": what every entry point on captures asks of its numbers. Assumes nothing: these are definitions.
use Rattle.std.specs.Prelude.{ℕ, Bool, ◌&&◌, leb}
use Rattle.sizes.specs.Sizes.{most_frames}

-- N is 1..8
unfoldable pub super_allowed : ℕ → Bool
super_allowed N = leb 1 N && leb N most_frames
