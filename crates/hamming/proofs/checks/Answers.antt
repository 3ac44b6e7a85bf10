-- `hamming::checks` meets its contract: the sum over the bytes is the sum over the bits (`checks_bytes`). Assumes nothing.
use mathlib.Core.Path.{◌∙◌}
use Rattle.hamming.proofs.ByBytes.{byte_of_sum, checks_bytes}
use Rattle.hamming_matrix.proofs.Sums.{summed_none, summed_more, summed_all}
use Rattle.hamming.proofs.checks.Goals as goal

pub loop-k-init : goal.loop-k-init
loop-k-init c = summed_none

pub loop-k-preserved : goal.loop-k-preserved
unfolding byte_of_sum
loop-k-preserved c = summed_more c.loop-k.invariant c.loop-k-test.true c.byte_sum-sum.ensures

pub returns : goal.returns
returns c = summed_all c.loop-k.invariant c.loop-k-test.false ∙ checks_bytes c.args.w
