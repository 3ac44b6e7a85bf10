-- Each public contract has one answer: two runs that meet it leave the same bytes. `Post` is the contract's own `ensures`, so a weaker
-- contract would not pass here. Assumes nothing.
use mathlib.Core.Path.{◌≡◌}
use Rattle.prelude.proofs.Common.{only}
use Rattle.scrambler.proofs.fill.Reads as fill
use Rattle.scrambler.proofs.sequence.Reads as sequence

-- s and t are the two states at exit; their first part is what is left in `out`
pub one_fill : (κs : _) (a : _) (x y : _) (s t : _) → fill.Post κs a x s → fill.Post κs a y t → s.0.now ≡ t.0.now
one_fill κs a x y s t p q = only p q

pub one_sequence : (κs : _) (a : _) (x y : _) (s t : _) → sequence.Post κs a x s → sequence.Post κs a y t → x ≡ y
one_sequence κs a x y s t p q = only p q
