-- Each public contract has one answer: two results that meet it are the same. `Post` is the contract's own `ensures`, so a weaker contract would not
-- pass here. Assumes nothing.
use mathlib.Core.Path.{◌≡◌}
use Rattle.prelude.proofs.Common.{only}
use Rattle.answer.proofs.Results.{same_numbers}
use Rattle.gmp_count.proofs.count_of.Reads as count_of
use Rattle.gmp_count.proofs.Partial.start.Reads as start
use Rattle.gmp_count.proofs.Partial.more.Reads as more
use Rattle.gmp_count.proofs.Partial.so_far.Reads as so_far

pub one_count_of : (κs : _) (a : _) (x y : _) (s t : _) → count_of.Post κs a x s → count_of.Post κs a y t → x ≡ y
one_count_of κs a x y s t p q = same_numbers (only p q)

pub one_start : (κs : _) (a : _) (x y : _) (s t : _) → start.Post κs a x s → start.Post κs a y t → x ≡ y
one_start κs a x y s t p q = only p q

pub one_more : (κs : _) (a : _) (x y : _) (s t : _) → more.Post κs a x s → more.Post κs a y t → x ≡ y
one_more κs a x y s t p q = only p q

pub one_so_far : (κs : _) (a : _) (x y : _) (s t : _) → so_far.Post κs a x s → so_far.Post κs a y t → x ≡ y
one_so_far κs a x y s t p q = same_numbers (only p q)
