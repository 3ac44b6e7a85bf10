-- Each public contract has one answer: two outcomes that meet it are the same. `Post` is the contract's own `ensures`, so a weaker contract would not
-- pass here. Assumes nothing.
use mathlib.Core.Path.{◌≡◌}
use Rattle.prelude.proofs.Common.{only}
use Rattle.bits_copy.proofs.copy.Reads as copy
use Rattle.bits_copy.proofs.word_from.Reads as word-from
use Rattle.bits_copy.proofs.sum.Reads as sum

-- what is left in `out`
pub one_copy : (κs : _) (a : _) (x y : _) (s t : _) → copy.Post κs a x s → copy.Post κs a y t → s.1.1.0.now ≡ t.1.1.0.now
one_copy κs a x y s t p q = only p q

pub one_word_from : (κs : _) (a : _) (x y : _) (s t : _) → word-from.Post κs a x s → word-from.Post κs a y t → x ≡ y
one_word_from κs a x y s t p q = only p q

pub one_sum : (κs : _) (a : _) (x y : _) (s t : _) → sum.Post κs a x s → sum.Post κs a y t → x ≡ y
one_sum κs a x y s t p q = only p q
