-- `archive::read` meets its contract: refused by the table, or the three lists. Assumes nothing.
use mathlib.Core.Path.{refl}
use Rattle.archive_spec.specs.Read.{open_leaves}
use Rattle.archive_spec.proofs.Judging.{open_room, open_listed}
use Rattle.archive.proofs.read.Goals as goal
use Rattle.answer.proofs.Results.{meets_error}

pub returns-in_err-n : goal.returns-in_err-n
unfolding open_leaves
returns-in_err-n c = meets_error _ _ _ c.from_residual.ensures.1 c.in_err-n.ensures

pub list_all-requires : goal.list_all-requires
list_all-requires c = open_room _ _ _ _ _ c.in_ok-n.ensures refl

pub returns : goal.returns
returns c = open_listed _ _ _ _ _ c.in_ok-n.ensures refl c.list_all.ensures
