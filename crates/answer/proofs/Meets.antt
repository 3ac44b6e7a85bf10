-- The laws of `Outcome` and `written`. Assumes nothing.
use mathlib.Core.Path.{◌≡◌, sym, ap, ◌∙◌}
use borrow.Author.Tests.{eq-eqb, ne_eqb}
use Rattle.answer.specs.Numbers.{all_done}
use Rattle.answer.specs.Outcomes.{Outcome, written, and_then}
use Rattle.answer.specs.declared.Answer.{Answer}

-- ONE ANSWER: two outcomes that meet a contract at one entry are equal
pub only_outcome : {A B : Type 0} {says : A} {leaves : B} {r r' : A} {out out' : B} → Outcome says leaves r out → Outcome says leaves r' out'
    → (r ≡ r') × (out ≡ out')
only_outcome p q = (p.told ∙ sym q.told, p.kept ∙ sym q.kept)

pub written_done : {B : Type 0} (a : Answer) (new old : B) → a.number ≡ all_done → written a new old ≡ new
unfolding written
written_done a new old h = rw (eq-eqb a.number all_done h)

pub written_refused : {B : Type 0} (a : Answer) (new old : B) → (a.number ≡ all_done → ⊥) → written a new old ≡ old
unfolding written
written_refused a new old h = rw (ne_eqb a.number all_done h)

-- the two ways to meet a contract: done, with the new contents, or refused, with the contents as they were
pub meets_done : {B : Type 0} {says r : Answer} {new out : B} (old : B) → r ≡ says → r.number ≡ all_done → out ≡ new → Outcome says (written says new old) r out
meets_done {B} {says} {r} {new} {out} old e h p =
    record { told = e; kept = p ∙ sym (written_done says new old (ap (λ (x : Answer). x.number) (sym e) ∙ h)) }

pub meets_refused : {B : Type 0} {says r : Answer} {old : B} (new : B) → r ≡ says → (r.number ≡ all_done → ⊥) → Outcome says (written says new old) r old
meets_refused {B} {says} {r} {old} new e h =
    record { told = e; kept = sym (written_refused says new old (λ z. h (ap (λ (x : Answer). x.number) e ∙ z))) }

-- two calls in a row: the first is refused, and lent memory is as it was; or it is done, and the second answers and decides what is left
pub stops_there : {B : Type 0} {first r : Answer} {old left : B} (second : Answer) (new : B) → r ≡ first → (r.number ≡ all_done → ⊥) → left ≡ old
    → Outcome (and_then first second) (written first new old) r left
stops_there {B} {first} {r} {old} second new e h k =
    let n : first.number ≡ all_done → ⊥ = λ z. h (ap (λ (x : Answer). x.number) e ∙ z) in
    record { told = e ∙ sym (written_refused first second first n); kept = k ∙ sym (written_refused first new old n) }

pub goes_further : {B : Type 0} {first second m r : Answer} {new left : B} (old : B) → m ≡ first → m.number ≡ all_done → Outcome second new r left
    → Outcome (and_then first second) (written first new old) r left
goes_further {B} {first} {second} {m} {r} {new} old e h o =
    let z : first.number ≡ all_done = ap (λ (x : Answer). x.number) (sym e) ∙ h in
    record { told = o.told ∙ sym (written_done first second first z); kept = o.kept ∙ sym (written_done first new old z) }
