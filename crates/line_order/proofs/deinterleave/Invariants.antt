-- `line_order::deinterleave` meets its contract: a word a turn. Assumes nothing.
use Rattle.prelude.proofs.Lists.{Filled}
use Rattle.line_order.specs.Order.{word_by, the_line_order}
use Rattle.line_order.proofs.deinterleave.Given as goal

abbrev pub invariant-loop-w : goal.invariant-loop-w
invariant-loop-w l = Filled l.w (word_by the_line_order l.s) l.initial.word-items l.word-items
