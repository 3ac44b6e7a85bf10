-- `gmp_map::pair_byte` meets its contract: of the first piece, of the second, or four bits of each. Assumes nothing.
use Rattle.gmp_map.proofs.Pairs.{pairs}
use Rattle.gmp_map.proofs.pair_byte.Goals as goal

pub returns-then-k-lt128 : goal.returns-then-k-lt128
returns-then-k-lt128 c = search pairs

pub returns-then-k-gt128 : goal.returns-then-k-gt128
returns-then-k-gt128 c = search pairs

pub returns : goal.returns
returns c = search pairs
