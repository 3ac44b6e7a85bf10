-- `archive::opening::first_off_rule` meets its contract: an entry a turn. Assumes nothing.
use Rattle.archive_spec.specs.File.{length_in}
use Rattle.archive_spec.specs.Read.{off_rule}
use Rattle.archive_spec.proofs.Starts.{Walked}
use Rattle.archive.proofs.opening.first_off_rule.Given as goal

abbrev pub invariant-loop-e : goal.invariant-loop-e
invariant-loop-e l = Walked (off_rule l.size l.s l.n) l.n l.n (length_in l.s) l.e l.from
