-- `gmp_count::zeros_in_front` meets its contract: the zeros passed over have left 0 as it is. Assumes nothing.
use Rattle.gmp_count.specs.Steps.{Unchanged}
use Rattle.gmp_count.proofs.zeros_in_front.Given as goal

abbrev pub invariant-loop-k : goal.invariant-loop-k
invariant-loop-k l = Unchanged 0 l.s l.k
