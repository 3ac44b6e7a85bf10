-- Each public contract has one answer: two results that meet it are the same. `Post` is the contract's own `ensures`, so a weaker contract would not
-- pass here. Assumes nothing.
use mathlib.Core.Path.{◌≡◌}
use Rattle.prelude.proofs.Common.{only}
use Rattle.hamming.proofs.Found.number.Reads as number
use Rattle.hamming.proofs.Found.is_found.Reads as is_found
use Rattle.hamming.proofs.checks.Reads as checks
use Rattle.hamming.proofs.join.Reads as join
use Rattle.hamming.proofs.encode.Reads as encode
use Rattle.hamming.proofs.repair_at.Reads as repair-at
use Rattle.hamming.proofs.repair.Reads as repair

pub one_number : (κs : _) (a : _) (x y : _) (s t : _) → number.Post κs a x s → number.Post κs a y t → x ≡ y
one_number κs a x y s t p q = only p q

pub one_is_found : (κs : _) (a : _) (x y : _) (s t : _) → is_found.Post κs a x s → is_found.Post κs a y t → x ≡ y
one_is_found κs a x y s t p q = only p q

pub one_checks : (κs : _) (a : _) (x y : _) (s t : _) → checks.Post κs a x s → checks.Post κs a y t → x ≡ y
one_checks κs a x y s t p q = only p q

pub one_join : (κs : _) (a : _) (x y : _) (s t : _) → join.Post κs a x s → join.Post κs a y t → x ≡ y
one_join κs a x y s t p q = only p q

pub one_encode : (κs : _) (a : _) (x y : _) (s t : _) → encode.Post κs a x s → encode.Post κs a y t → x ≡ y
one_encode κs a x y s t p q = only p q

pub one_repair_at : (κs : _) (a : _) (x y : _) (s t : _) → repair-at.Post κs a x s → repair-at.Post κs a y t → x ≡ y
one_repair_at κs a x y s t p q = only p q

pub one_repair : (κs : _) (a : _) (x y : _) (s t : _) → repair.Post κs a x s → repair.Post κs a y t → x ≡ y
one_repair κs a x y s t p q = only p q
