-- Tests in turn that hand out a `Result`: what a test shows that refused, and one that was passed. Assumes nothing.
use mathlib.Core.Bool.{Bool, true, false}
use mathlib.Core.Path.{◌≡◌, refl, sym, ap, ◌∙◌}
use lib.Dec.{eqb}
use Rattle.std.specs.Prelude.{ℕ, cond, get_or, [], ◌∷◌, Result, Ok, Err, IfOk, IfErr, IsErrAnd}
use Rattle.std.proofs.lemmas.Result.{IfOk-at_ok, IfErr-at_err}
use Rattle.answer.specs.Numbers.{all_done}
use Rattle.answer.specs.Outcomes.{Outcome, written}
use Rattle.answer.specs.Rows.{refused}
use Rattle.answer.specs.Refusals.{refusal_number, refused_at, tested, answered}
use Rattle.answer.specs.declared.Answer.{Answer}
use Rattle.answer.specs.declared.refusal.Refusal.{Refusal}
use Rattle.answer.specs.declared.refusal.Refusal.TheVariants.{OutsideSet, WrongLength, SpareBit, BeyondRepair, FillerNotZero, WrongMbas, WrongCrc, PadNotZero}
use Rattle.answer.specs.declared.refusal.Refusal.TheVariants.{ListedFails, NotArchive, BadEntry, Misplaced}
use Rattle.answer.specs.declared.refusal.Refused.{Refused}
use Rattle.answer.proofs.Meets.{meets_refused}

-- the test refused
pub test_held : {b : Bool} (r : Refused) {e : Refused} → Err e ≡ tested b r → (b ≡ true) × (r ≡ e)
test_held {b} r h = IfErr-at_err (λ x. (b ≡ true) × (r ≡ x)) (sym h) (shown b)
  where
    shown : (t : Bool) → IfErr (tested t r) (λ x. (t ≡ true) × (r ≡ x))
    shown true = (refl, refl)
    shown false = tt

-- it was passed
pub test_gone : {b : Bool} (r : Refused) {u : Unit {0}} → Ok u ≡ tested b r → b ≡ false
test_gone {b} r h = IfOk-at_ok (λ _. b ≡ false) (sym h) (shown b)
  where
    shown : (t : Bool) → IfOk (tested t r) (λ _. t ≡ false)
    shown true = tt
    shown false = refl

-- ---- the three numbers tell the result

-- the refusal that has a number
refusal_by : ℕ → Refusal
refusal_by n =
    get_or (Misplaced ∷ OutsideSet ∷ WrongLength ∷ SpareBit ∷ BeyondRepair ∷ FillerNotZero ∷ WrongMbas ∷ WrongCrc ∷ PadNotZero ∷ ListedFails
    ∷ NotArchive ∷ BadEntry ∷ []) n Misplaced

by_number : (r : Refusal) → refusal_by (refusal_number r) ≡ r
unfolding refusal_by
by_number OutsideSet = refl
by_number WrongLength = refl
by_number SpareBit = refl
by_number BeyondRepair = refl
by_number FillerNotZero = refl
by_number WrongMbas = refl
by_number WrongCrc = refl
by_number PadNotZero = refl
by_number ListedFails = refl
by_number NotArchive = refl
by_number BadEntry = refl
by_number Misplaced = refl

-- no refusal's number is 0
no_number : (r : Refusal) → eqb (refusal_number r) all_done ≡ false
no_number OutsideSet = refl
no_number WrongLength = refl
no_number SpareBit = refl
no_number BeyondRepair = refl
no_number FillerNotZero = refl
no_number WrongMbas = refl
no_number WrongCrc = refl
no_number PadNotZero = refl
no_number ListedFails = refl
no_number NotArchive = refl
no_number BadEntry = refl
no_number Misplaced = refl

-- the result that has the numbers
result_by : Answer → Result ℕ Refused
result_by a = cond (eqb a.number all_done) (Ok a.count) (Err (refused_at (refusal_by a.number) a.place))

by_numbers : (x : Result ℕ Refused) → result_by (answered x) ≡ x
unfolding result_by
by_numbers (Ok c) = refl
by_numbers (Err r) = rw (no_number r.refusal, by_number r.refusal)

-- ONE RESULT: two results with the same numbers are equal
pub same_numbers : {x y : Result ℕ Refused} → answered x ≡ answered y → x ≡ y
same_numbers {x} {y} e = sym (by_numbers x) ∙ ap result_by e ∙ by_numbers y

-- and two results that meet a contract at one entry
pub only_result : {B : Type 0} {says : Answer} {leaves : B} {x y : Result ℕ Refused} {out out' : B} → Outcome says leaves (answered x) out
    → Outcome says leaves (answered y) out' → (x ≡ y) × (out ≡ out')
only_result p q = (same_numbers (p.told ∙ sym q.told), p.kept ∙ sym q.kept)

-- ---- a call that is refused

-- what is refused is not done
pub not_done : (r : Refused) → (answered (Err r)).number ≡ all_done → ⊥
not_done r z =
    let e : ◌≡◌ {A = Result ℕ Refused} (Err (refused_at r.refusal 0)) (Ok 0) = same_numbers (ap (λ (n : ℕ). refused n 0) z) in
    IfErr-at_err (λ _. ⊥) (sym e) tt

-- the error is handed on as it is
pub handed_on : {x : Result ℕ Refused} {e : Refused} → IsErrAnd x (λ y. y ≡ e) → x ≡ Err e
handed_on {x = Ok c} h = absurd h
handed_on {x = Err r} h = ap Err h

-- the contract of a call that is refused, whatever it would have written
pub meets_error : {B : Type 0} {says : Answer} (x : Result ℕ Refused) (e : Refused) {old : B} (new : B) → IsErrAnd x (λ y. y ≡ e) → answered (Err e) ≡ says
    → Outcome says (written says new old) (answered x) old
meets_error {B} {says} x e {old} new h s = rw (handed_on h) (meets_refused new s (not_done e))
