-- `line_order::checks_inside` meets its contract: a symbol a turn. Assumes nothing.
use Rattle.sizes.specs.Sizes.{word_bytes}
use Rattle.hamming_table.specs.Steps.{entry_at}
use Rattle.hamming_matrix.proofs.Sums.{Summed}
use Rattle.line_order.specs.Order.{word_in}
use Rattle.line_order.proofs.checks_inside.Given as goal

abbrev pub invariant-loop-k : goal.invariant-loop-k
invariant-loop-k l = Summed (entry_at l.t (word_in l.capture l.w)) word_bytes l.k l.sum
