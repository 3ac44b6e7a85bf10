-- Each public contract has one answer: two results that meet it are the same, or two captures that are left. `Post` is the contract's own
-- `ensures`, so a weaker contract would not pass here. Assumes nothing.
use mathlib.Core.Path.{◌≡◌}
use Rattle.prelude.proofs.Common.{only}
use Rattle.line_order.proofs.place.Reads as place
use Rattle.line_order.proofs.word_in.Reads as word_in
use Rattle.line_order.proofs.checks_in.Reads as checks-in
use Rattle.line_order.proofs.put_word.Reads as put_word
use Rattle.line_order.proofs.interleave.Reads as interleave
use Rattle.line_order.proofs.deinterleave.Reads as deinterleave

pub one_place : (κs : _) (a : _) (x y : _) (s t : _) → place.Post κs a x s → place.Post κs a y t → x ≡ y
one_place κs a x y s t p q = only p q

pub one_word_in : (κs : _) (a : _) (x y : _) (s t : _) → word_in.Post κs a x s → word_in.Post κs a y t → x ≡ y
one_word_in κs a x y s t p q = only p q

pub one_checks_in : (κs : _) (a : _) (x y : _) (s t : _) → checks-in.Post κs a x s → checks-in.Post κs a y t → x ≡ y
one_checks_in κs a x y s t p q = only p q

-- s and t are the two states at exit; their first part is what is left in the capture
pub one_put_word : (κs : _) (a : _) (x y : _) (s t : _) → put_word.Post κs a x s → put_word.Post κs a y t → s.0.now ≡ t.0.now
one_put_word κs a x y s t p q = only p q

pub one_interleave : (κs : _) (a : _) (x y : _) (s t : _) → interleave.Post κs a x s → interleave.Post κs a y t → x ≡ y
one_interleave κs a x y s t p q = only p q

pub one_deinterleave : (κs : _) (a : _) (x y : _) (s t : _) → deinterleave.Post κs a x s → deinterleave.Post κs a y t → x ≡ y
one_deinterleave κs a x y s t p q = only p q
