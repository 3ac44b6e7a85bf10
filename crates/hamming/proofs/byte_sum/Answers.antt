-- `hamming::byte_sum` meets its contract: the invariant adds up the columns of the bits that are in. Assumes nothing.
use Prim.Native.Nat.{ℕ, ◌+◌, ◌*◌}
use mathlib.Core.List.{List}
use mathlib.Core.Path.{ap, ap₂, ◌∙◌}
use lib.ListN.{get_or}
use Rattle.bits.proofs.Numbers.{digit_lt}
use Rattle.hamming_matrix.specs.Columns.{column_of}
use Rattle.hamming_matrix.specs.Sums.{column_taken}
use Rattle.hamming.specs.Steps.{byte_sum}
use Rattle.hamming_matrix.proofs.Sums.{summed_none, summed_more, summed_all}
use Rattle.hamming.proofs.byte_sum.Goals as goal

pub loop-j-init : goal.loop-j-init
loop-j-init c = summed_none

pub times-sum-requires : goal.times-sum-requires
times-sum-requires c = rw c.digit_of.ensures (digit_lt 8 c.args.x c.loop-j.j)

pub loop-j-preserved : goal.loop-j-preserved
unfolding column_taken column_of
loop-j-preserved c = summed_more c.loop-j.invariant c.loop-j-test.true
    (c.times-sum.ensures
    ∙ ap₂ ◌*◌ c.digit_of.ensures (ap (λ (t : List ℕ). get_or t (8 * c.args.k + c.loop-j.j) 0) c.requires.0))

pub returns : goal.returns
unfolding byte_sum
returns c = summed_all c.loop-j.invariant c.loop-j-test.false
