-- `line::holds_element` meets its contract. Assumes nothing.
use Rattle.line.proofs.SlotLaws.{holds_before, holds_from}
use native.Mathlib.Omega.{arith}
use Rattle.line.proofs.holds_element.Goals as goal

pub returns-then-w-d : goal.returns-then-w-d
returns-then-w-d c = let a = c.args in holds_before a.n a.w (omega arith)

pub returns : goal.returns
returns c = let a = c.args in
    rw c.wait-d.ensures (holds_from a.n a.w (omega arith))
