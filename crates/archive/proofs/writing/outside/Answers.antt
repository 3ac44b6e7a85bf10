-- `archive::writing::outside` meets its contract: its tests in turn. Assumes nothing.
use Rattle.prelude.proofs.Common.{or_next}
use Rattle.archive_spec.specs.Write.{write_outside}
use Rattle.archive_spec.proofs.Judging.{counted_by}
use Rattle.archive.proofs.writing.outside.Goals as goal

pub any_outside-requires : goal.any_outside-requires
any_outside-requires c = (counted_by _ c.count_outside.ensures c.if-count_outside.false).few

pub returns-then-count_outside : goal.returns-then-count_outside
unfolding write_outside
returns-then-count_outside c = rw (← c.count_outside.ensures, c.if-count_outside.true)

pub returns-else-count_outside : goal.returns-else-count_outside
unfolding write_outside
returns-else-count_outside c = search or_next
