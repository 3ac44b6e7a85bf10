-- `gmp_count::zeros_in_front` meets its contract. Assumes nothing.
use Rattle.gmp_count.proofs.Lines.{unchanged_at_0, unchanged_more, zero_stays}
use Rattle.gmp_count.proofs.zeros_in_front.Goals as goal

pub returns-then-v-ne0 : goal.returns-then-v-ne0
returns-then-v-ne0 c = unchanged_at_0 _ _

pub loop-k-init : goal.loop-k-init
loop-k-init c = unchanged_at_0 _ _

pub loop-k-preserved : goal.loop-k-preserved
loop-k-preserved c = unchanged_more c.loop-k.invariant c.loop-k-test.true (zero_stays c.if-b-ne48.false)
