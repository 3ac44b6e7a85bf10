-- `edit::local_number` meets its contract. Assumes nothing.
use mathlib.Core.Path.{refl}
use Rattle.edit_spec.specs.Edit.{element_local}
use Rattle.edit.proofs.local_number.Goals as goal

pub returns : goal.returns
unfolding element_local
returns c = refl
