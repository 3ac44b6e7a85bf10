-- Each public contract has one answer: two runs that meet it at one entry return the same. `Post` is the
-- contract's own `ensures`, so a weaker contract would not pass here. Assumes nothing.
use Prim.Native.Nat.{ℕ}
use mathlib.Core.Path.{◌≡◌, refl, sym, ap}
use native.Mathlib.Omega.{arith}
use Rattle.prelude.proofs.Common.{only}
use Rattle.std.specs.Prelude.{Result, Ok, Err, IfErr}
use Rattle.std.proofs.lemmas.Result.{IfErr-at_err}
use Rattle.answer.specs.Refusals.{answered}
use Rattle.answer.specs.declared.refusal.Refused.{Refused}
use Rattle.answer.proofs.Results.{same_numbers, not_done}
use Rattle.gmp.specs.Places.{kind_number}
use Rattle.gmp.specs.Answers.{Told, told}
use Rattle.gmp.specs.declared.told.Kind.{Kind}
use Rattle.gmp.specs.declared.told.Kind.TheVariants.{Stuff, Data}
use Rattle.gmp.specs.declared.told.Run.{Run}
use Rattle.gmp.proofs.run.Reads as run
use Rattle.gmp.proofs.runs.Reads as runs
use Rattle.gmp.proofs.data_in.Reads as data_in_law
use Rattle.gmp.proofs.outside_stretch.Reads as outside-stretch

-- the document's number tells the kind
same_kind : (a b : Kind) → kind_number a ≡ kind_number b → a ≡ b
same_kind Stuff Stuff e = refl
same_kind Data Data e = refl
same_kind Stuff Data e = absurd (omega arith)
same_kind Data Stuff e = absurd (omega arith)

same_refused : {a b : Refused} (x : Result ℕ Refused) → x ≡ Err b → IfErr x (λ y. a ≡ y) → a ≡ b
same_refused {a} x h e = IfErr-at_err (λ y. a ≡ y) h e

-- so what is told of a run request, with place 0 of a refusal, tells it
told_once : (x y : Result Run Refused) → told x ≡ told y → IfErr x (λ r. r.place ≡ 0) → IfErr y (λ r. r.place ≡ 0) → x ≡ y
told_once (Ok r) (Ok s) e p q =
    let k = same_kind r.kind s.kind (ap (λ (z : Told). z.kind) e) in
    rw (k, ap (λ (z : Told). z.last) e)
told_once (Err a) (Err b) e p q =
    let s : answered (Err a) ≡ answered (Err b) = rw (p, q, ap (λ (z : Told). z.number) e) in
    ap Err (same_refused (Err a) (same_numbers s) refl)
told_once (Ok r) (Err b) e p q = absurd (not_done b (sym (ap (λ (z : Told). z.number) e)))
told_once (Err a) (Ok s) e p q = absurd (not_done a (ap (λ (z : Told). z.number) e))

pub one_run : (κs : _) (a : _) (x y : _) (s t : _) → run.Post κs a x s → run.Post κs a y t → x ≡ y
one_run κs a x y s t p q = told_once x y (only p.0 q.0) p.1 q.1

pub one_runs : (κs : _) (a : _) (x y : _) (s t : _) → runs.Post κs a x s → runs.Post κs a y t → x ≡ y
one_runs κs a x y s t p q = same_numbers (only p q)

pub one_data_in : (κs : _) (a : _) (x y : _) (s t : _) → data_in_law.Post κs a x s → data_in_law.Post κs a y t → x ≡ y
one_data_in κs a x y s t p q = only p.is q.is

pub one_outside_stretch : (κs : _) (a : _) (x y : _) (s t : _) → outside-stretch.Post κs a x s → outside-stretch.Post κs a y t → x ≡ y
one_outside_stretch κs a x y s t p q = only p q
