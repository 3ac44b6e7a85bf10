-- A capture with the named bits flipped, word by word, as the code does it. Assumes nothing: these are definitions.
use Rattle.std.specs.Prelude.{ℕ, ◌/◌, List, length}
use Rattle.prelude.specs.Loops.{upto}
use Rattle.sizes.specs.Sizes.{word_bytes}
use Rattle.line_order.specs.Order.{the_line_order}
use Rattle.demand_laws.specs.Demand2.{flip_if}
use Rattle.line_order.specs.Steps.{replace_by}
use Rattle.demands.specs.Demands.{flips_of}

-- word w with the bit that is named for it flipped
abbrev pub flipped_by : List ℕ → ℕ → List ℕ → List ℕ
flipped_by flips w v = flip_if v (flips_of flips w)

-- all words, one after the other
unfoldable pub flipped_bytes : List ℕ → List ℕ → List ℕ
flipped_bytes flips cap = upto (replace_by the_line_order (flipped_by flips)) cap (length cap / word_bytes)
