-- `gmp_map::fill_pair` meets its contract: byte by byte. Assumes nothing.
use Rattle.bits.specs.Bits.{byte_of}
use Rattle.prelude.proofs.Lists.{Filled}
use Rattle.gmp_map.specs.Steps.{pair_bit}
use Rattle.gmp_map.proofs.fill_pair.Given as goal

abbrev pub invariant-loop-k : goal.invariant-loop-k
invariant-loop-k l = Filled l.k (byte_of (pair_bit l.s l.first l.second)) l.initial.out l.out
