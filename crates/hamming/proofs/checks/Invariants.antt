-- `hamming::checks` meets its contract: the sum over the bytes is the sum over the bits (`checks_bytes`). Assumes nothing.
use Rattle.sizes.specs.Sizes.{word_bytes}
use Rattle.hamming.proofs.ByBytes.{byte_of_sum}
use Rattle.hamming_matrix.proofs.Sums.{Summed}
use Rattle.hamming.proofs.checks.Given as goal

abbrev pub invariant-loop-k : goal.invariant-loop-k
invariant-loop-k l = Summed (byte_of_sum l.fn.w) word_bytes l.k l.sum
