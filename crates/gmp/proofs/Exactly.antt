-- "given exactly when": what `runs` and `run` answer is exactly what their table says. Assumes nothing.
use Prim.Native.Nat.{ℕ}
use mathlib.Core.Bool.{Bool, true, false, cond}
use mathlib.Core.Path.{◌≡◌, refl}
use Rattle.answer.specs.Numbers.{all_done, outside_set}
use Rattle.answer.specs.Rows.{done, refused, rising, row_number}
use Rattle.answer.specs.Demand1.{Exactly}
use Rattle.answer.specs.Steps.{in_turn, row_then}
use Rattle.answer.specs.declared.Answer.{Answer}
use Rattle.answer.proofs.Table.{exactly}
use Rattle.answer.proofs.Turns.{in_turn_law}
use Rattle.gmp.specs.Places.{kind_number, kind_at}
use Rattle.gmp.specs.Runs.{last_of_run, runs_from}
use Rattle.gmp.specs.declared.told.Kind.TheVariants.{Stuff}
use Rattle.gmp.specs.Answers.{outside_place, Told, runs_rows, run_of, runs_of}

-- the number of a run request, as an answer
abbrev numbered : Told → Answer
numbered t = record { number = t.number; place = 0; count = 0 }

pub runs_exactly : (c j : ℕ) → Exactly (runs_rows c j) (runs_from c j) (runs_of c j)
unfolding runs_of rising row_number
runs_exactly c j = exactly (runs_rows c j) (runs_from c j) refl

-- a run request has the table of `runs`, and hands back no place and no count
pub run_exactly : (c j : ℕ) → Exactly (runs_rows c j) 0 (numbered (run_of c j))
unfolding run_of rising row_number in_turn row_then
run_exactly c j =
    rw (by (outside_place c j) (kind_at c j) (last_of_run c j), ← in_turn_law (runs_rows c j) 0) (exactly (runs_rows c j) 0 refl)
  where
    by : (b : Bool) (k l : ℕ)
        → numbered (cond b (record { number = outside_set; kind = kind_number Stuff; last = 0 }) (record { number = all_done; kind = k; last = l }))
        ≡ cond b (refused outside_set 0) (done 0)
    by true k l = refl
    by false k l = refl
