-- `archive::opening::is_bad_kind` meets its contract: its tests. Assumes nothing.
use borrow.Author.Tests.{lt-leb}
use Rattle.archive_spec.proofs.Starts.{kind_cut, kind_whole}
use Rattle.archive.proofs.opening.is_bad_kind.Goals as goal

pub returns-then-whole : goal.returns-then-whole
returns-then-whole c = search kind_whole

pub returns-else-whole : goal.returns-else-whole
returns-else-whole c = rw (lt-leb _ _ c.if-whole.false) (kind_cut _ _ _ c.entry_from.ensures c.if-whole.false)
