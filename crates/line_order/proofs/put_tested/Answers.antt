-- `line_order::put_tested` meets its contract: a symbol a turn. Assumes nothing.
use mathlib.Core.Path.{refl}
use native.Mathlib.Omega.{arith}
use lib.ListN.{length-set}
use Rattle.sizes.specs.Sizes.{word_bytes}
use Rattle.prelude.proofs.LoopLaws.{folded_none, folded_more, folded_all}
use Rattle.line_order.specs.Order.{the_line_order}
use Rattle.line_order.specs.Steps.{put_symbol_by, put_by}
use Rattle.line_order.proofs.put_tested.Goals as goal

pub loop-k-init : goal.loop-k-init
loop-k-init c = (folded_none, refl, omega arith)

pub loop-k-preserved : goal.loop-k-preserved
unfolding put_symbol_by the_line_order
loop-k-preserved c = let i = c.loop-k.invariant in
    let e = c.put_symbol.ensures in
    (folded_more i.0 e, rw e (simp length-set i.1), omega arith)

pub returns : goal.returns
unfolding put_by
returns c = folded_all word_bytes c.loop-k.invariant.0 c.loop-k.invariant.2 c.loop-k-test.false
