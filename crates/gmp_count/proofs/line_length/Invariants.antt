-- `gmp_count::line_length` meets its contract: no byte that it has passed is a line feed. Assumes nothing.
use lib.ListN.{length}
use Rattle.prelude.proofs.LoopLaws.{PassedOver}
use Rattle.gmp_count.specs.Count.{is_feed}
use Rattle.gmp_count.proofs.line_length.Given as goal

abbrev pub invariant-loop-i : goal.invariant-loop-i
invariant-loop-i l = PassedOver l.i (is_feed l.s) (length l.s)
