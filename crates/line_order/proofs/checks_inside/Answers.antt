-- `line_order::checks_inside` meets its contract: a symbol a turn. Assumes nothing.
use Prim.Native.Nat.{ℕ, ◌+◌, ◌*◌}
use mathlib.Core.Path.{sym, ap, ◌∙◌}
use native.Mathlib.Omega.{arith}
use lib.ListN.{get_or}
use Rattle.hamming_table.specs.Steps.{entry_at, sum_by_tables}
use Rattle.hamming_matrix.proofs.Sums.{summed_none, summed_more, summed_all}
use Rattle.line_order.specs.Order.{symbol_by, the_line_order}
use Rattle.line_order.proofs.OrderLaws.{word-symbol}
use Rattle.line_order.proofs.checks_inside.Goals as goal

pub loop-k-init : goal.loop-k-init
loop-k-init c = summed_none

pub loop-k-preserved : goal.loop-k-preserved
unfolding entry_at symbol_by the_line_order
loop-k-preserved c = let a = c.args in
    let k = c.loop-k.k in
    summed_more c.loop-k.invariant c.loop-k-test.true
    (ap (λ (x : ℕ). get_or a.t.now (256 * k + x) 0)
    (c.from.ensures ∙ c.symbol_inside.ensures ∙ sym (word-symbol a.capture.now a.w k (omega arith))))

pub returns : goal.returns
unfolding sum_by_tables
returns c = summed_all c.loop-k.invariant c.loop-k-test.false
