-- `hamming::byte_sum` meets its contract: the invariant adds up the columns of the bits that are in. Assumes nothing.
use Prim.Native.Nat.{◌*◌}
use Rattle.bits.specs.Bits.{digit}
use Rattle.hamming_matrix.specs.Sums.{column_taken}
use Rattle.hamming_matrix.proofs.Sums.{Summed}
use Rattle.hamming.proofs.byte_sum.Given as goal

abbrev pub invariant-loop-j : goal.invariant-loop-j
invariant-loop-j l = Summed (column_taken (8 * l.k) (digit 8 l.x)) 8 l.j l.sum
