-- DEMAND 1: each call refuses by the numbered table exactly when the table says: its number and place, count 0, no byte of any output buffer
-- changed. Document 01, "Numbers handed back". Every call's theorem `X-exactly` is of this form. Assumes nothing: these are definitions.
use Rattle.std.specs.Prelude.{ℕ, ◌≡◌, List}
use Rattle.answer.specs.Numbers.{all_done}
use Rattle.answer.specs.Rows.{Row, done, refused, Applies, Least}
use Rattle.answer.specs.declared.Answer.{Answer}

-- the answer is exactly the table's. A row holds: it is refused by the least that does, and only so. None holds: it is done, with the
-- count c, and only so
pub record Exactly (rows : List Row) (c : ℕ) (r : Answer) : Type 0 where
  pub refuses : (k p : ℕ) → Least rows k p → r ≡ refused k p
  pub refused_by : (r.number ≡ all_done → ⊥) → Least rows r.number r.place
  pub grants : ((k p : ℕ) → Applies rows k p → ⊥) → r ≡ done c
  pub granted_by : r.number ≡ all_done → (k p : ℕ) → Applies rows k p → ⊥

-- and what is left in lent memory, `old` before: where it is refused nothing is changed, where it is done there is `new`
pub record Demand1 {B : Type 0} (rows : List Row) (c : ℕ) (new old : B) (r : Answer) (left : B) : Type 0 where
  pub exactly : Exactly rows c r
  pub kept : (r.number ≡ all_done → ⊥) → left ≡ old
  pub written : r.number ≡ all_done → left ≡ new
