-- What a public entry point must answer and what it must leave in lent memory. Assumes nothing: these are definitions.
use Rattle.std.specs.Prelude.{cond, ◌≡◌, eqb}
use Rattle.answer.specs.Numbers.{all_done}
use Rattle.answer.specs.declared.Answer.{Answer}

-- the answer is the one it must be, and lent memory holds what it must hold
pub record Outcome {A B : Type 0} (says : A) (leaves : B) (answer : A) (left : B) : Type 0 where
  pub told : answer ≡ says
  pub kept : left ≡ leaves

-- "A refusal changes no output byte": the new contents where the call was done, else the old
unfoldable pub written : {B : Type 0} → Answer → B → B → B
written a new old = cond (eqb a.number all_done) new old

-- a second call is made where the first was done: the answer is the second's, or else the first's refusal
abbrev pub and_then : Answer → Answer → Answer
and_then first second = written first second first
