-- `gmp::is_data` meets its contract: the product fits, and the test is the definition's. Assumes nothing.
use mathlib.Core.Path.{refl}
use native.Mathlib.Omega.{arith}
use Rattle.gmp.specs.Places.{is_data}
use Rattle.gmp.proofs.Residues.{residue_product}
use Rattle.gmp.proofs.is_data.Goals as goal

pub overflow_mul-result : goal.overflow_mul-result
overflow_mul-result c = omega (arith, residue_product _ _ c.requires)

pub returns : goal.returns
unfolding is_data
returns c = refl
