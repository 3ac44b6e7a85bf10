-- `line_order::word_by` meets its contract: a symbol a turn. Assumes nothing.
use native.Mathlib.Omega.{arith}
use Rattle.prelude.proofs.Lists.{filled_none, filled_more, filled_all}
use mathlib.Core.Path.{refl}
use Rattle.line_order.specs.Order.{word_by}
use Rattle.line_order.proofs.word_by.Goals as goal

pub loop-k-init : goal.loop-k-init
loop-k-init g c = filled_none

pub symbol-requires : goal.symbol-requires
symbol-requires g c = c.requires.may _ (omega arith)

pub loop-k-preserved : goal.loop-k-preserved
loop-k-preserved g c = filled_more c.loop-k.invariant c.loop-k-test.true (c.requires.gives _ _ (omega arith) c.symbol.ensures)

pub returns : goal.returns
unfolding word_by
returns g c = filled_all 16 c.loop-k.invariant c.loop-k-test.false refl
