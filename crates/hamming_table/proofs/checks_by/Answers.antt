-- `hamming_table::checks_by` meets its contract: the invariant adds up the entries of the bytes that are in. Assumes nothing.
use Rattle.hamming_table.specs.Steps.{entry_at, sum_by_tables}
use Rattle.hamming_matrix.proofs.Sums.{summed_none, summed_more, summed_all}
use Rattle.hamming_table.proofs.checks_by.Goals as goal

pub loop-k-init : goal.loop-k-init
loop-k-init c = summed_none

pub loop-k-preserved : goal.loop-k-preserved
unfolding entry_at
loop-k-preserved c = summed_more c.loop-k.invariant c.loop-k-test.true (rw c.from.ensures)

pub returns : goal.returns
unfolding sum_by_tables
returns c = summed_all c.loop-k.invariant c.loop-k-test.false
