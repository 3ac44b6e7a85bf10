-- `archive::opening::first_bad_kind` meets its contract: an entry a turn. Assumes nothing.
use Rattle.prelude.proofs.LoopLaws.{PassedOver}
use Rattle.archive_spec.specs.Read.{bad_kind}
use Rattle.archive.proofs.opening.first_bad_kind.Given as goal

abbrev pub invariant-loop-e : goal.invariant-loop-e
invariant-loop-e l = PassedOver l.e (bad_kind l.size l.s) l.n
