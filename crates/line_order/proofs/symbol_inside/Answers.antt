-- `line_order::symbol_inside` meets its contract. Assumes nothing.
use Prim.Native.Nat.{ℕ}
use mathlib.Core.Path.{ap}
use native.Mathlib.Omega.{arith}
use lib.ListN.{get_or}
use Rattle.line_order.specs.Order.{symbol_by, symbol_place, the_line_order}
use Rattle.line_order.proofs.OrderLaws.{place_group}
use Rattle.line_order.proofs.symbol_inside.Goals as goal

pub overflow_add-result : goal.overflow_add-result
unfolding symbol_place
overflow_add-result c = omega (arith, c.in_group.ensures)

pub bounds-capture-group : goal.bounds-capture-group
unfolding symbol_place
bounds-capture-group c = omega (arith, c.in_group.ensures)

pub returns : goal.returns
unfolding symbol_by the_line_order
returns c = let a = c.args in
    ap (λ (x : ℕ). get_or a.capture.now x 0) (rw c.in_group.ensures (place_group a.w a.k))
