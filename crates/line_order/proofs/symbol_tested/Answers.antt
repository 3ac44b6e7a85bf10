-- `line_order::symbol_tested` meets its contract. Assumes nothing.
use Prim.Native.Nat.{ℕ}
use mathlib.Core.Path.{sym, ap}
use lib.ListN.{get_or, get_or-eq_default}
use Rattle.line_order.specs.Order.{symbol_by, the_line_order}
use Rattle.line_order.proofs.symbol_tested.Goals as goal

pub returns-in-Some : goal.returns-in-Some
unfolding symbol_by the_line_order
returns-in-Some c = ap (λ (p : ℕ). get_or c.args.capture.now p 0) c.in-Some.ensures.0

pub returns-in-None : goal.returns-in-None
unfolding symbol_by the_line_order
returns-in-None c = sym (get_or-eq_default c.args.capture.now 0 c.in-None.ensures)
