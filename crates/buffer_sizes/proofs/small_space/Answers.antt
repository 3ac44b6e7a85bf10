-- `buffer_sizes::small_space` meets its contract. Assumes nothing.
use mathlib.Core.Path.{refl}
use Rattle.buffer_sizes.specs.Lengths.{small_bytes}
use Rattle.buffer_sizes.proofs.Zeros.{many}
use Rattle.buffer_sizes.proofs.small_space.Goals as goal

pub returns : goal.returns
returns c = record { room = many small_bytes; zeros = refl }
