-- Each public contract has one answer: two results that meet it are the same. `Post` is the contract's own `ensures`, so a weaker contract would not
-- pass here. Assumes nothing.
use mathlib.Core.Path.{◌≡◌}
use Rattle.prelude.proofs.Common.{only}
use Rattle.answer.proofs.granted.Reads as granted
use Rattle.answer.proofs.refuse.Reads as refuse
use Rattle.answer.proofs.AnswerFromResultU64Refused.from.Reads as from
use Rattle.answer.proofs.refusal.Refusal.number.Reads as number
use Rattle.answer.proofs.refusal.Refusal.at.Reads as at
use Rattle.answer.proofs.buffer_place.Reads as buffer-place
use Rattle.answer.proofs.refuse_when.Reads as refuse-when
use Rattle.answer.proofs.refuse_if.Reads as refuse-if
use Rattle.answer.proofs.refuse_at.Reads as refuse-at
use Rattle.answer.proofs.refuse_length.Reads as refuse-length

pub one_granted : (κs : _) (a : _) (x y : _) (s t : _) → granted.Post κs a x s → granted.Post κs a y t → x ≡ y
one_granted κs a x y s t p q = only p q

pub one_refuse : (κs : _) (a : _) (x y : _) (s t : _) → refuse.Post κs a x s → refuse.Post κs a y t → x ≡ y
one_refuse κs a x y s t p q = only p q

pub one_answer_from : (κs : _) (a : _) (x y : _) (s t : _) → from.Post κs a x s → from.Post κs a y t → x ≡ y
one_answer_from κs a x y s t p q = only p q

pub one_refusal_number : (κs : _) (a : _) (x y : _) (s t : _) → number.Post κs a x s → number.Post κs a y t → x ≡ y
one_refusal_number κs a x y s t p q = only p q

pub one_refusal_at : (κs : _) (a : _) (x y : _) (s t : _) → at.Post κs a x s → at.Post κs a y t → x ≡ y
one_refusal_at κs a x y s t p q = only p q

pub one_buffer_place : (κs : _) (a : _) (x y : _) (s t : _) → buffer-place.Post κs a x s → buffer-place.Post κs a y t → x ≡ y
one_buffer_place κs a x y s t p q = only p q

pub one_refuse_when : (κs : _) (a : _) (x y : _) (s t : _) → refuse-when.Post κs a x s → refuse-when.Post κs a y t → x ≡ y
one_refuse_when κs a x y s t p q = only p q

pub one_refuse_if : (κs : _) (a : _) (x y : _) (s t : _) → refuse-if.Post κs a x s → refuse-if.Post κs a y t → x ≡ y
one_refuse_if κs a x y s t p q = only p q

pub one_refuse_at : (κs : _) (a : _) (x y : _) (s t : _) → refuse-at.Post κs a x s → refuse-at.Post κs a y t → x ≡ y
one_refuse_at κs a x y s t p q = only p q

pub one_refuse_length : (κs : _) (a : _) (x y : _) (s t : _) → refuse-length.Post κs a x s → refuse-length.Post κs a y t → x ≡ y
one_refuse_length κs a x y s t p q = only p q
