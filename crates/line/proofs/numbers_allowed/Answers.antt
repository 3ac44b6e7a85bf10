-- `line::numbers_allowed` meets its contract. Assumes nothing.

use Rattle.line.proofs.numbers_allowed.Goals as goal

pub returns-then-super_allowed : goal.returns-then-super_allowed
returns-then-super_allowed c = rw (← c.super_allowed.ensures, c.if-super_allowed.true) c.mbas_allowed.ensures

pub returns-else-super_allowed : goal.returns-else-super_allowed
returns-else-super_allowed c = rw (← c.super_allowed.ensures, c.if-super_allowed.false)
