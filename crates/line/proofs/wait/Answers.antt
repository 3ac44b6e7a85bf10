-- `line::wait` meets its contract. Assumes nothing.
use mathlib.Core.Path.{refl}
use Rattle.line.specs.Slots.{delay}
use Rattle.line.proofs.wait.Goals as goal

pub returns : goal.returns
unfolding delay
returns c = refl
