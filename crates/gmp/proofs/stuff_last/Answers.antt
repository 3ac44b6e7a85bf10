-- `gmp::stuff_last` meets its contract: the law `stuff_last`. Assumes nothing.
use native.Mathlib.Omega.{arith}
use Rattle.gmp.proofs.Residues.{residue_product}
use Rattle.gmp.proofs.Ends.{all_stuff, stuff_last, last_to}
use Rattle.gmp.proofs.stuff_last.Goals as goal

pub overflow_mul-result : goal.overflow_mul-result
overflow_mul-result c = omega (arith, residue_product _ _ c.requires.0)

pub overflow_add-result : goal.overflow_add-result
overflow_add-result c = omega (arith, last_to c.requires.0 (stuff_last _ _ c.requires.0 c.requires.1 c.if-c-eq0.false))

pub returns-then-c-eq0 : goal.returns-then-c-eq0
returns-then-c-eq0 c = search all_stuff

pub returns : goal.returns
returns c = search stuff_last
