-- `line_order::place` meets its contract: the group, and the place in it. Assumes nothing.
use native.Mathlib.Omega.{arith}
use Rattle.line_order.specs.Order.{symbol_place}
use Rattle.line_order.proofs.OrderLaws.{place_group}
use Rattle.line_order.proofs.place.Goals as goal

pub overflow_add-result : goal.overflow_add-result
unfolding symbol_place
overflow_add-result c = omega (arith, c.in_group.ensures)

pub returns : goal.returns
returns c = rw c.in_group.ensures (place_group _ _)
