-- `archive::writing::any_outside` meets its contract: an entry a turn. Assumes nothing.
use lib.ListN.{length}
use Rattle.archive_spec.specs.Write.{nth, entry_outside}
use Rattle.archive_spec.proofs.Starts.{Walked}
use Rattle.archive.proofs.writing.any_outside.Given as goal

abbrev pub invariant-loop-kind : goal.invariant-loop-kind
invariant-loop-kind l = Walked (entry_outside l.n (nth l.kinds) (nth l.lengths)) l.m l.n (nth l.lengths) (length l.yielded) l.from
