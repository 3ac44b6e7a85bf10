-- `hamming::flipped` meets its contract: it is the definition. Assumes nothing.
use mathlib.Core.Path.{refl}
use Rattle.hamming.specs.Code.{flip}
use Rattle.hamming.proofs.flipped.Goals as goal

pub returns : goal.returns
unfolding flip
returns c = refl
