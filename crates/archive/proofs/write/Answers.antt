-- `archive::write` meets its contract: refused by the table, or the head. Assumes nothing.
use Rattle.answer.proofs.Meets.{meets_done}
use Rattle.answer.proofs.Results.{meets_error}
use mathlib.Core.Path.{refl}
use Rattle.archive_spec.specs.Write.{write_leaves}
use Rattle.archive_spec.proofs.Judging.{written_head}
use Rattle.archive.proofs.write.Goals as goal

pub put_head-requires : goal.put_head-requires
put_head-requires c = written_head _ _ _ _ c.in_ok-bytes.ensures refl

pub returns-in_err-bytes : goal.returns-in_err-bytes
unfolding write_leaves
returns-in_err-bytes c = meets_error _ _ _ c.from_residual.ensures.1 c.in_err-bytes.ensures

pub returns : goal.returns
unfolding write_leaves
returns c = meets_done _ c.in_ok-bytes.ensures refl c.put_head.ensures
