-- `u8::from` of a symbol meets its contract: four pairs fit a byte (`pair_small`), and make it (`byte_is`). Assumes nothing.
use native.Mathlib.Omega.{arith}
use Rattle.symbol.proofs.Amplitudes.{pair_small, byte_is}
use borrow.Author.Rules.{rules}
use Rattle.symbol.proofs.U8FromSymbol.from.Goals as goal

pub overflow_mul-result : goal.overflow_mul-result
overflow_mul-result c = omega (arith, pair_small _ _ c.pair.ensures)

pub overflow_mul-result-2 : goal.overflow_mul-result-2
overflow_mul-result-2 c = omega (arith, pair_small _ _ c.pair-2.ensures)

pub overflow_add-result : goal.overflow_add-result
overflow_add-result c = omega (arith, pair_small _ _ c.pair.ensures, pair_small _ _ c.pair-2.ensures)

pub overflow_mul-result-3 : goal.overflow_mul-result-3
overflow_mul-result-3 c = omega (arith, pair_small _ _ c.pair-3.ensures)

pub overflow_add-result-2 : goal.overflow_add-result-2
overflow_add-result-2 c = omega (arith, pair_small _ _ c.pair.ensures, pair_small _ _ c.pair-2.ensures, pair_small _ _ c.pair-3.ensures)

pub overflow_add-result-3 : goal.overflow_add-result-3
overflow_add-result-3 c = omega (
  arith,
  pair_small _ _ c.pair.ensures,
  pair_small _ _ c.pair-2.ensures,
  pair_small _ _ c.pair-3.ensures,
  pair_small _ _ c.pair-4.ensures,
)

pub returns : goal.returns
returns c = byte_is c.args.s c.pair.result c.pair-2.result c.pair-3.result c.pair-4.result
    (search rules) (search rules) (search rules) (search rules)
    c.pair.ensures c.pair-2.ensures c.pair-3.ensures c.pair-4.ensures
