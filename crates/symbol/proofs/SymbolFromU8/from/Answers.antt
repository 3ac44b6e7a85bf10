-- `symbol::Symbol::from` meets its contract: four levels make the symbol (`symbol_is`). Assumes nothing.
use Rattle.symbol.proofs.Amplitudes.{symbol_is}
use Rattle.symbol.proofs.SymbolFromU8.from.Goals as goal

pub returns : goal.returns
returns c = symbol_is c.args.x
    c.level.result c.level-2.result c.level-3.result c.level-4.result
    c.level.ensures c.level-2.ensures c.level-3.ensures c.level-4.ensures
