-- `hamming_table::checks_by` meets its contract: the invariant adds up the entries of the bytes that are in. Assumes nothing.
use Rattle.sizes.specs.Sizes.{word_bytes}
use Rattle.hamming_table.specs.Steps.{entry_at}
use Rattle.hamming_matrix.proofs.Sums.{Summed}
use Rattle.hamming_table.proofs.checks_by.Given as goal

abbrev pub invariant-loop-k : goal.invariant-loop-k
invariant-loop-k l = Summed (entry_at l.t l.fn.w) word_bytes l.k l.sum
