-- Each public contract has one answer: two results that meet it are the same. `Post` is the contract's own `ensures`, so a weaker contract would not
-- pass here. Assumes nothing.
use mathlib.Core.Path.{◌≡◌}
use Rattle.prelude.proofs.Common.{only}
use Rattle.symbol.proofs.level.Reads as level
use Rattle.symbol.proofs.pair.Reads as pair
use Rattle.symbol.proofs.SymbolFromU8.from.Reads as symbol-of
use Rattle.symbol.proofs.U8FromSymbol.from.Reads as byte_of

pub one_level : (κs : _) (a : _) (x y : _) (s t : _) → level.Post κs a x s → level.Post κs a y t → x ≡ y
one_level κs a x y s t p q = only p q

pub one_pair : (κs : _) (a : _) (x y : _) (s t : _) → pair.Post κs a x s → pair.Post κs a y t → x ≡ y
one_pair κs a x y s t p q = only p q

pub one_symbol_of : (κs : _) (a : _) (x y : _) (s t : _) → symbol-of.Post κs a x s → symbol-of.Post κs a y t → x ≡ y
one_symbol_of κs a x y s t p q = only p q

pub one_byte_of : (κs : _) (a : _) (x y : _) (s t : _) → byte_of.Post κs a x s → byte_of.Post κs a y t → x ≡ y
one_byte_of κs a x y s t p q = only p q
