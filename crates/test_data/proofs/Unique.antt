-- Each public contract has one answer: two runs that meet it return the same and leave the same. `Post` is the contract's own `ensures`, so a weaker
-- contract would not pass here. Assumes nothing.
use mathlib.Core.Path.{◌≡◌}
use Rattle.prelude.proofs.Common.{only}
use Rattle.test_data.proofs.Generator.start.Reads as start
use Rattle.test_data.proofs.Generator.step.Reads as step
use Rattle.test_data.proofs.Generator.output.Reads as output
use Rattle.test_data.proofs.Generator.below.Reads as below
use Rattle.test_data.proofs.Generator.fill.Reads as fill
use Rattle.test_data.proofs.U8Element.made_of.Reads as byte-made-of
use Rattle.test_data.proofs.U8Element.taken_into.Reads as byte-taken-into
use Rattle.test_data.proofs.U64Element.made_of.Reads as number-made-of
use Rattle.test_data.proofs.U64Element.taken_into.Reads as number-taken-into
use Rattle.test_data.proofs.digest.Reads as digest

pub one_start : (κs : _) (a : _) (x y : _) (s t : _) → start.Post κs a x s → start.Post κs a y t → x ≡ y
one_start κs a x y s t p q = only p q

-- s and t are the two states at exit; their first part is what the generator has become
pub one_step : (κs : _) (a : _) (x y : _) (s t : _) → step.Post κs a x s → step.Post κs a y t → s.0.now ≡ t.0.now
one_step κs a x y s t p q = only p q

pub one_output : (κs : _) (a : _) (x y : _) (s t : _) → output.Post κs a x s → output.Post κs a y t → x ≡ y
one_output κs a x y s t p q = only p q

pub one_below : (κs : _) (a : _) (x y : _) (s t : _) → below.Post κs a x s → below.Post κs a y t → x ≡ y
one_below κs a x y s t p q = only p q

-- their second part is what is left in `out`; the element is any, with its own ghost members
pub one_fill : (κs : _) (l : _) (c : _) (e : _) (d : _) (k : _) (m : _) (o : _) (a : _) (x y : _) (s t : _) → fill.Post κs l c e d k m o a x s → fill.Post κs l c e d k m o a y t → (s.0.now ≡ t.0.now) × (s.1.0.now ≡ t.1.0.now)
one_fill κs l c e d k m o a x y s t p q = (only p.state q.state, only p.filled q.filled)

-- of both elements
pub one_made_of : (κs : _) (a : _) (x y : _) (s t : _) → byte-made-of.Post κs a x s → byte-made-of.Post κs a y t → x ≡ y
one_made_of κs a x y s t p q = only p q

pub one_number_made_of : (κs : _) (a : _) (x y : _) (s t : _) → number-made-of.Post κs a x s → number-made-of.Post κs a y t → x ≡ y
one_number_made_of κs a x y s t p q = only p q

pub one_taken_into : (κs : _) (a : _) (x y : _) (s t : _) → byte-taken-into.Post κs a x s → byte-taken-into.Post κs a y t → x ≡ y
one_taken_into κs a x y s t p q = only p q

pub one_number_taken_into : (κs : _) (a : _) (x y : _) (s t : _) → number-taken-into.Post κs a x s → number-taken-into.Post κs a y t → x ≡ y
one_number_taken_into κs a x y s t p q = only p q

pub one_digest : (κs : _) (l : _) (c : _) (e : _) (d : _) (k : _) (m : _) (o : _) (a : _) (x y : _) (s t : _) → digest.Post κs l c e d k m o a x s → digest.Post κs l c e d k m o a y t → x ≡ y
one_digest κs l c e d k m o a x y s t p q = only p q
