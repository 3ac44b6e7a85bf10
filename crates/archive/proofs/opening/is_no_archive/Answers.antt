-- `archive::opening::is_no_archive` meets its contract: too short, or another beginning. Assumes nothing.
use borrow.Author.Tests.{lt-ltb}
use Rattle.archive_spec.specs.File.{fixed}
use Rattle.archive_spec.specs.Read.{is_no_archive}
use Rattle.archive.proofs.Beginning.{other_beginning}
use Rattle.archive.proofs.opening.is_no_archive.Goals as goal

pub returns-then-size-lt16 : goal.returns-then-size-lt16
unfolding is_no_archive
returns-then-size-lt16 c = rw (lt-ltb c.args.size 16 c.if-size-lt16.true)

pub returns-else-size-lt16 : goal.returns-else-size-lt16
unfolding fixed
returns-else-size-lt16 c = other_beginning c.args.size c.args.first.now c.if-size-lt16.false c.starts_with.ensures.value
