-- `archive::writing::is_outside` meets its contract: its tests. Assumes nothing.
use Rattle.prelude.proofs.Common.{or_first, or_next}
use Rattle.prelude.proofs.LoopLaws.{tests}
use Rattle.archive_spec.specs.Steps.{outside_at}
use Rattle.archive.proofs.writing.is_outside.Goals as goal

pub returns-then-kind_outside : goal.returns-then-kind_outside
unfolding outside_at
returns-then-kind_outside c = search (or_first, or_next, tests)

pub returns-then-long-gt-FIELD_MOST : goal.returns-then-long-gt-FIELD_MOST
unfolding outside_at
returns-then-long-gt-FIELD_MOST c = search (or_first, or_next, tests)

pub returns : goal.returns
unfolding outside_at
returns c = search (or_first, or_next, tests)
