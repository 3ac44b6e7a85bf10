-- `line::one_of` meets its contract: an allowed number of super frames is small, so that the product fits. Assumes nothing.
use Prim.Native.Nat.{◌≤◌}
use mathlib.Core.Path.{sym, ◌∙◌}
use native.Mathlib.Nat.{mul-le-mul}
use native.Mathlib.Omega.{arith}
use Rattle.line.proofs.CaptureLaws.{super_frames}
use Rattle.line.proofs.one_of.Goals as goal

pub overflow_mul-result : goal.overflow_mul-result
overflow_mul-result c = let a = c.args in
    let few = (super_frames a.n (sym c.super_allowed.ensures ∙ c.if-super_allowed.true)).few in
    let small : c.from.result ≤ 4294967295 = omega arith in
    omega (arith, mul-le-mul small few)

pub returns-then-super_allowed : goal.returns-then-super_allowed
returns-then-super_allowed c = rw (← c.super_allowed.ensures, c.if-super_allowed.true, c.from.ensures)

pub returns-else-super_allowed : goal.returns-else-super_allowed
returns-else-super_allowed c = rw (← c.super_allowed.ensures, c.if-super_allowed.false)
