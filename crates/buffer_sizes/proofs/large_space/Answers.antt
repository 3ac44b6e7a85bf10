-- `buffer_sizes::large_space` meets its contract. Assumes nothing.
use mathlib.Core.Path.{refl}
use Rattle.buffer_sizes.specs.Lengths.{large_bytes}
use Rattle.buffer_sizes.proofs.Zeros.{many}
use Rattle.buffer_sizes.proofs.large_space.Goals as goal

pub returns : goal.returns
returns c = record { room = many large_bytes; zeros = refl }
