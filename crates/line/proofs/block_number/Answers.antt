-- `line::block_number` meets its contract. Assumes nothing.
use native.Mathlib.Omega.{arith}
use Rattle.line.specs.Fec.{block_number}
use Rattle.line.proofs.block_number.Goals as goal

pub returns : goal.returns
unfolding block_number
returns c = omega arith
