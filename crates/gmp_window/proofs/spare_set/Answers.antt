-- `gmp_window::spare_set` meets its contract: the byte behind the last group has the four bits on top. Assumes nothing.
use borrow.Author.Tests.{ne_eqb}
use mathlib.Core.Path.{◌∙◌}
use native.Mathlib.Omega.{arith}
use Rattle.gmp_window.proofs.Spares.{spare_even, spare_odd}
use Rattle.gmp_window.proofs.spare_set.Goals as goal

-- `omega` takes whatever the test says of d for what the law asks of it
pub returns-then-d-eq1 : goal.returns-then-d-eq1
returns-then-d-eq1 c = spare_odd c.args.d _ (omega (arith, c.if-d-eq1.true)) c.byte_from.ensures

pub returns-else-d-eq1 : goal.returns-else-d-eq1
returns-else-d-eq1 c = ne_eqb _ _ c.if-d-eq1.false ∙ spare_even c.args.d _ (λ z. c.if-d-eq1.false (omega (arith, z)))
