-- Each public contract has one answer: two results that meet it are the same. `Post` is the contract's own `ensures`, so a weaker contract would not
-- pass here. Assumes nothing.
use mathlib.Core.Path.{◌≡◌}
use Rattle.prelude.proofs.Common.{only}
use Rattle.line.proofs.super_allowed.Reads as super-allowed
use Rattle.line.proofs.mbas_allowed.Reads as mbas-allowed
use Rattle.line.proofs.numbers_allowed.Reads as numbers-allowed
use Rattle.line.proofs.one_of.Reads as one_of_lem
use Rattle.line.proofs.mbas.Reads as mbas
use Rattle.line.proofs.slot.Reads as slot
use Rattle.line.proofs.element_in.Reads as element-in
use Rattle.line.proofs.holds_element.Reads as holds-element

pub one_super_allowed : (κs : _) (a : _) (x y : _) (s t : _) → super-allowed.Post κs a x s → super-allowed.Post κs a y t → x ≡ y
one_super_allowed κs a x y s t p q = only p q

pub one_mbas_allowed : (κs : _) (a : _) (x y : _) (s t : _) → mbas-allowed.Post κs a x s → mbas-allowed.Post κs a y t → x ≡ y
one_mbas_allowed κs a x y s t p q = only p q

pub one_numbers_allowed : (κs : _) (a : _) (x y : _) (s t : _) → numbers-allowed.Post κs a x s → numbers-allowed.Post κs a y t → x ≡ y
one_numbers_allowed κs a x y s t p q = only p q

pub one_one_of : (κs : _) (a : _) (x y : _) (s t : _) → one_of_lem.Post κs a x s → one_of_lem.Post κs a y t → x ≡ y
one_one_of κs a x y s t p q = only p q

pub one_mbas : (κs : _) (a : _) (x y : _) (s t : _) → mbas.Post κs a x s → mbas.Post κs a y t → x ≡ y
one_mbas κs a x y s t p q = only p q

pub one_slot : (κs : _) (a : _) (x y : _) (s t : _) → slot.Post κs a x s → slot.Post κs a y t → x ≡ y
one_slot κs a x y s t p q = only p q

pub one_element_in : (κs : _) (a : _) (x y : _) (s t : _) → element-in.Post κs a x s → element-in.Post κs a y t → x ≡ y
one_element_in κs a x y s t p q = only p q

pub one_holds_element : (κs : _) (a : _) (x y : _) (s t : _) → holds-element.Post κs a x s → holds-element.Post κs a y t → x ≡ y
one_holds_element κs a x y s t p q = only p q
