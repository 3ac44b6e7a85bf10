-- `line_order::place_below` meets its contract. Assumes nothing.
use native.Mathlib.Omega.{arith}
use Rattle.line_order.specs.Order.{symbol_place}
use Rattle.line_order.proofs.OrderLaws.{place_group}
use Rattle.line_order.proofs.place_below.Goals as goal

pub returns-then-bytes-g : goal.returns-then-bytes-g
unfolding symbol_place
returns-then-bytes-g c = omega arith

pub returns-then-bytes-group : goal.returns-then-bytes-group
returns-then-bytes-group c = let a = c.args in omega (arith, place_group a.w a.k, c.in_group-at.ensures)

pub returns : goal.returns
returns c = let a = c.args in
    (omega (arith, place_group a.w a.k, c.in_group-at.ensures), omega (arith, c.if-bytes-group.false))
