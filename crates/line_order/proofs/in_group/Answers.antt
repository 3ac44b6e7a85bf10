-- `line_order::in_group` meets its contract. Assumes nothing.
use native.Mathlib.Omega.{arith}
use Rattle.line_order.specs.Order.{symbol_place}
use Rattle.line_order.proofs.in_group.Goals as goal

pub returns : goal.returns
unfolding symbol_place
returns c = omega arith
