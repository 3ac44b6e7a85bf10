-- `gmp::data_last` meets its contract: the law `data_last`. Assumes nothing.
use native.Mathlib.Omega.{arith}
use Rattle.gmp.proofs.Residues.{residue_product}
use Rattle.gmp.proofs.Ends.{all_data, data_last, last_to}
use Rattle.gmp.proofs.data_last.Goals as goal

pub overflow_mul-result : goal.overflow_mul-result
overflow_mul-result c = omega (arith, residue_product _ _ c.requires.0)

pub overflow_add-result : goal.overflow_add-result
overflow_add-result c = omega (arith, last_to c.requires.0 (data_last _ _ c.requires.0 c.requires.1 c.if-c-eq-PLACES.false))

pub returns-then-c-eq-PLACES : goal.returns-then-c-eq-PLACES
returns-then-c-eq-PLACES c = search all_data

pub returns : goal.returns
returns c = search data_last
