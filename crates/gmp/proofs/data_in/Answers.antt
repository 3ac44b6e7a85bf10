-- `gmp::data_in` meets its contract: the laws `data_outside` and `data_in_law`. Assumes nothing.
use native.Mathlib.Omega.{arith}
use Rattle.gmp.specs.Steps.{Stretch}
use Rattle.gmp.proofs.Allowed.{stretch_in}
use Rattle.gmp.proofs.Counts.{stretch_product, before_product, data_outside, data_in_law}
use Rattle.gmp.proofs.data_in.Goals.{Else-outside_stretch}
use Rattle.gmp.proofs.data_in.Goals as goal

inside : (c : Else-outside_stretch) → Stretch c.args.c c.args.f c.args.n
inside c = stretch_in _ _ _ c.outside_stretch.ensures c.if-outside_stretch.false

pub returns-then-outside_stretch : goal.returns-then-outside_stretch
returns-then-outside_stretch c = search data_outside

pub overflow_sub-result : goal.overflow_sub-result
overflow_sub-result c = omega (arith, inside c)

pub overflow_add-result : goal.overflow_add-result
overflow_add-result c = omega (arith, inside c)

pub overflow_mul-result : goal.overflow_mul-result
overflow_mul-result c = omega (arith, stretch_product _ _ _ (inside c))

pub overflow_sub-result-2 : goal.overflow_sub-result-2
overflow_sub-result-2 c = omega (arith, inside c)

pub overflow_mul-result-2 : goal.overflow_mul-result-2
overflow_mul-result-2 c = omega (arith, before_product _ _ _ (inside c))

pub returns : goal.returns
returns c = data_in_law _ _ _ (inside c)
