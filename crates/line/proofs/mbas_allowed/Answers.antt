-- `line::mbas_allowed` meets its contract. Assumes nothing.
use mathlib.Core.Path.{refl}
use Rattle.line.specs.Fec.{mbas_allowed}
use Rattle.line.proofs.mbas_allowed.Goals as goal

pub returns : goal.returns
unfolding mbas_allowed
returns c = refl
