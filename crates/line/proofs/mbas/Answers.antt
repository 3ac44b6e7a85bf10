-- `line::mbas` meets its contract. Assumes nothing.
use native.Mathlib.Omega.{arith}
use Rattle.line.specs.Fec.{block_number, mbas_of}
use Rattle.line.proofs.mbas.Goals as goal

pub overflow_cast-result : goal.overflow_cast-result
unfolding block_number
overflow_cast-result c = omega (arith, c.block_number.ensures)

pub returns : goal.returns
unfolding mbas_of
returns c = omega (arith, c.block_number.ensures)
