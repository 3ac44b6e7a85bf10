-- `line::element_in` meets its contract. Assumes nothing.
use native.Mathlib.Omega.{arith}
use Rattle.line.specs.Slots.{element_in, delay}
use Rattle.line.proofs.element_in.Goals as goal

pub returns : goal.returns
unfolding element_in
returns c = omega arith
