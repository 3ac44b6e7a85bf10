-- What the public functions answer, for any input: document 01, "GMP places" and "Numbers handed back". Assumes nothing: these are definitions.
use Rattle.std.specs.Prelude.{ℕ, Bool, cond, ◌||◌, List, [], ◌∷◌, Result, Ok, Err, ltb}
use Rattle.answer.specs.Numbers.{all_done, outside_set}
use Rattle.answer.specs.Rows.{Row, answer_of, whole}
use Rattle.answer.specs.Refusals.{refusal_number}
use Rattle.answer.specs.declared.Answer.{Answer}
use Rattle.answer.specs.declared.refusal.Refused.{Refused}
use Rattle.gmp.specs.Places.{kind_number, kind_at}
use Rattle.gmp.specs.Runs.{last_of_run, runs_from}
use Rattle.gmp.specs.declared.told.Kind.TheVariants.{Stuff}
use Rattle.sizes.specs.Sizes.{places}
use Rattle.gmp.specs.declared.told.Run.{Run}

-- the count or the place is outside its stated set
abbrev pub outside_place : ℕ → ℕ → Bool
outside_place c j = ltb places c || (ltb j 1 || ltb places j)

-- what a run request answers, each part by the document's number
pub record Told : Type 0 where
  pub number : ℕ
  pub kind : ℕ
  pub last : ℕ

abbrev pub told : Result Run Refused → Told
told (Ok r) = record { number = all_done; kind = kind_number r.kind; last = r.last }
told (Err r) = record { number = refusal_number r.refusal; kind = kind_number Stuff; last = 0 }

-- "A refused run request also gives kind stuff and last place 0."
unfoldable pub run_of : ℕ → ℕ → Told
run_of c j =
    cond (outside_place c j) (record { number = outside_set; kind = kind_number Stuff; last = 0 })
    (record { number = all_done; kind = kind_at c j; last = last_of_run c j })

-- the table of a request for the number of runs, which is a count
abbrev pub runs_rows : ℕ → ℕ → List Row
runs_rows c j = whole outside_set (outside_place c j) ∷ []

unfoldable pub runs_of : ℕ → ℕ → Answer
runs_of c j = answer_of (runs_rows c j) (runs_from c j)
