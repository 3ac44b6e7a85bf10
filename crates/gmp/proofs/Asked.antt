-- What the answer to a run request says, for a caller that lists runs or counts them; and what the tests of `run` say of the place. Assumes nothing.
use Prim.Native.Nat.{ℕ}
use mathlib.Core.Bool.{Bool, true, false, cond}
use mathlib.Core.Path.{◌≡◌, refl, sym, ap, ◌∙◌}
use native.Mathlib.Omega.{arith}
use Rattle.std.specs.Prelude.{Ok, Err}
use Rattle.answer.specs.Numbers.{all_done, outside_set}
use Rattle.answer.specs.Refusals.{refused_at, answered}
use Rattle.answer.specs.declared.refusal.Refusal.TheVariants.{OutsideSet}
use Rattle.answer.specs.Steps.{in_turn, row_then}
use Rattle.answer.proofs.Turns.{in_turn_law}
use Rattle.gmp.specs.Places.{is_data, kind_number, kind_at}
use Rattle.gmp.specs.Runs.{last_of_run, runs_from, EndsRun}
use Rattle.gmp.specs.Answers.{outside_place, Told, told, run_of, runs_of}
use Rattle.gmp.specs.Steps.{Place, run_at}
use Rattle.gmp.specs.declared.told.Kind.TheVariants.{Stuff, Data}
use Rattle.gmp.specs.declared.told.Run.{Run}
use Rattle.gmp.proofs.Allowed.{inside, not_outside}
use Rattle.gmp.proofs.Stretches.{last_ends}

pub run_ends : (c j : ℕ) (r : Run) → Place c j → told (Ok r) ≡ run_of c j → EndsRun c j r.last
unfolding run_of
run_ends c j r p e =
    let l : r.last ≡ last_of_run c j = ap (λ (t : Told). t.last) (rw (not_outside c j p) at e) in
    rw l (last_ends c j p.to)

-- what a test showed of the kind
pub kind_is : (c j : ℕ) {d b : Bool} → d ≡ is_data c j → d ≡ b → is_data c j ≡ b
kind_is c j e h = sym e ∙ h

-- the number of what a run request answers
number_of_run : (b : Bool) (k l : ℕ)
    → (cond {A = Told} b (record { number = outside_set; kind = kind_number Stuff; last = 0 }) (record { number = all_done; kind = k; last = l })).number
    ≡ cond b outside_set all_done
number_of_run true k l = refl
number_of_run false k l = refl

-- ---- the two answers to a run request

module _ (c j : ℕ) where
  pub run_refused : {o : Bool} → o ≡ outside_place c j → o ≡ true → told (Err (refused_at OutsideSet 0)) ≡ run_of c j
  unfolding run_of
  run_refused p q = rw (← p, q)

  pub run_told : {o : Bool} → o ≡ outside_place c j → o ≡ false → told (Ok (run_at c j)) ≡ run_of c j
  unfolding run_of run_at
  run_told p q = rw (← p, q) (by (is_data c j))
    where
      by : (b : Bool) → told (Ok (record { kind = cond b Data Stuff; last = last_of_run c j }))
          ≡ record { number = all_done; kind = cond b (kind_number Data) (kind_number Stuff); last = last_of_run c j }
      by true = refl
      by false = refl

  -- what is handed on is the run of a place
  pub run_place : (r : Run) → told (Ok r) ≡ run_of c j → Place c j
  unfolding run_of
  run_place r e = by (outside_place c j) refl (ap (λ (t : Told). t.number) e ∙ number_of_run (outside_place c j) (kind_at c j) (last_of_run c j))
    where
      by : (b : Bool) → outside_place c j ≡ b → all_done ≡ cond b outside_set all_done → Place c j
      by true h n = absurd (omega arith)
      by false h n = inside c j refl h

  pub runs_told : {n : ℕ} → Place c j → n ≡ runs_from c j → answered (Ok n) ≡ runs_of c j
  unfolding runs_of in_turn row_then
  runs_told p e = rw (in_turn_law, not_outside c j p, e) refl
