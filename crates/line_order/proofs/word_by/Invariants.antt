-- `line_order::word_by` meets its contract: a symbol a turn. Assumes nothing.
use Rattle.prelude.proofs.Lists.{Filled}
use Rattle.line_order.specs.Order.{symbol_by, the_line_order}
use Rattle.line_order.proofs.word_by.Given as goal

abbrev pub invariant-loop-k : goal.invariant-loop-k
invariant-loop-k g l = Filled l.k (symbol_by the_line_order l.capture l.w) l.initial.x-items l.x-items
