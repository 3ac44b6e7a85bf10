-- `gmp_count::read_above` meets its contract: the digits passed over have left the number as it is. Assumes nothing.
use Rattle.gmp_count.specs.Steps.{too_much, Unchanged}
use Rattle.gmp_count.proofs.read_above.Given as goal

abbrev pub invariant-loop-b : goal.invariant-loop-b
invariant-loop-b l = Unchanged too_much l.s l.b-index
