-- `archive::opening::first_bad_kind` meets its contract: an entry a turn. Assumes nothing.
use native.Mathlib.Omega.{arith}
use Rattle.prelude.proofs.LoopLaws.{found_here, first_end}
use Rattle.archive_spec.proofs.Judging.{place_here, place_none}
use Rattle.archive.proofs.opening.first_bad_kind.Goals as goal

pub returns-then-is_bad_kind : goal.returns-then-is_bad_kind
returns-then-is_bad_kind c = place_here _ _ (found_here c.loop-e.invariant (omega arith) c.is_bad_kind.ensures c.if-is_bad_kind.true) (omega arith)

pub returns : goal.returns
returns c = place_none _ _ (first_end c.loop-e.invariant (omega arith)) (omega arith)
