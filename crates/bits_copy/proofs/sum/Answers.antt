-- `bits_copy::sum` meets its contract. Assumes nothing.
use lib.ListN.{get_or}
use mir.Val.{Fits}
use mir.Syntax.{w8}
use Rattle.prelude.proofs.Lists.{filled_more}
use Rattle.prelude.proofs.LoopLaws.{loops}
use Rattle.bits.proofs.Xor.{element_xor}
use borrow.Author.Rules.{rules}
use Rattle.bits_copy.proofs.sum.Goals as goal

pub loop-k-preserved : goal.loop-k-preserved
loop-k-preserved c = let a = c.args in
    let k = c.loop-k.k in
    let x : Fits w8 (get_or a.a k 0) = search rules in
    let y : Fits w8 (get_or a.b k 0) = search rules in
    filled_more c.loop-k.invariant c.loop-k-test.true (element_xor 8 a.a a.b k x.fits y.fits)

pub loop-k-init : goal.loop-k-init
loop-k-init c = search loops
