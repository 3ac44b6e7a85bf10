-- `archive::field::number_at` meets its contract: a byte a turn. Assumes nothing.
use Rattle.archive_spec.proofs.Fields.{NumberTo}
use Rattle.archive.proofs.field.number_at.Given as goal

abbrev pub invariant-loop-j : goal.invariant-loop-j
invariant-loop-j l = NumberTo l.k l.s l.a l.j l.x
