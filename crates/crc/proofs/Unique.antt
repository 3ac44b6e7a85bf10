-- Each public contract has one answer, for any numbers, any table and any bytes: two results that meet it are the same. `Post` is the
-- contract's own `ensures`, so a weaker contract would not pass here. Assumes nothing.
use mathlib.Core.Path.{◌≡◌}
use Rattle.prelude.proofs.Common.{only}
use Rattle.crc.proofs.take.Reads as take
use Rattle.crc.proofs.shifted.Reads as shifted
use Rattle.crc.proofs.table.Reads as table
use Rattle.crc.proofs.remainder.Reads as remainder
use Rattle.crc.proofs.crc.Reads as crc

pub one_take : (κs : _) (a : _) (x y : _) (s t : _) → take.Post κs a x s → take.Post κs a y t → x ≡ y
one_take κs a x y s t p q = only p q

pub one_shifted : (κs : _) (a : _) (x y : _) (s t : _) → shifted.Post κs a x s → shifted.Post κs a y t → x ≡ y
one_shifted κs a x y s t p q = only p q

pub one_table : (κs : _) (a : _) (x y : _) (s t : _) → table.Post κs a x s → table.Post κs a y t → x ≡ y
one_table κs a x y s t p q = only p q

pub one_remainder : (κs : _) (a : _) (x y : _) (s t : _) → remainder.Post κs a x s → remainder.Post κs a y t → x ≡ y
one_remainder κs a x y s t p q = only p q

pub one_crc : (κs : _) (a : _) (x y : _) (s t : _) → crc.Post κs a x s → crc.Post κs a y t → x ≡ y
one_crc κs a x y s t p q = only p q
