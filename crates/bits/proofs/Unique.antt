-- Each public contract has one answer: two results that meet it are the same. `Post` is the contract's own `ensures`, so a weaker contract would not
-- pass here. Assumes nothing.
use mathlib.Core.Path.{◌≡◌}
use Rattle.prelude.proofs.Common.{only}
use Rattle.bits.proofs.byte_at.Reads as byte_at
use Rattle.bits.proofs.bit_at.Reads as bit_at
use Rattle.bits.proofs.byte_from.Reads as byte-from
use Rattle.bits.proofs.eight_of.Reads as eight_of
use Rattle.bits.proofs.wide.Reads as wide

pub one_byte_at : (κs : _) (a : _) (x y : _) (s t : _) → byte_at.Post κs a x s → byte_at.Post κs a y t → x ≡ y
one_byte_at κs a x y s t p q = only p q

pub one_bit_at : (κs : _) (a : _) (x y : _) (s t : _) → bit_at.Post κs a x s → bit_at.Post κs a y t → x ≡ y
one_bit_at κs a x y s t p q = only p q

pub one_byte_from : (κs : _) (a : _) (x y : _) (s t : _) → byte-from.Post κs a x s → byte-from.Post κs a y t → x ≡ y
one_byte_from κs a x y s t p q = only p q

pub one_eight_of : (κs : _) (a : _) (x y : _) (s t : _) → eight_of.Post κs a x s → eight_of.Post κs a y t → x ≡ y
one_eight_of κs a x y s t p q = only p q

pub one_wide : (κs : _) (a : _) (x y : _) (s t : _) → wide.Post κs a x s → wide.Post κs a y t → x ≡ y
one_wide κs a x y s t p q = only p.same q.same
