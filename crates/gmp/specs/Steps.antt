-- What the functions of `gmp` ask of one another and hand on: `places_all` and `stretches_all` of proofs/Allowed.antt say that a place and a stretch
-- leave nothing out. Assumes nothing: these are definitions.
use Rattle.std.specs.Prelude.{ℕ, suc, ◌+◌, ◌≤◌, cond, ◌≡◌}
use Rattle.sizes.specs.Sizes.{places}
use Rattle.gmp.specs.Places.{is_data, data_from, outside_stretch}
use Rattle.gmp.specs.Runs.{last_of_run}
use Rattle.gmp.specs.declared.told.Kind.TheVariants.{Stuff, Data}
use Rattle.gmp.specs.declared.told.Run.{Run}

-- a count, and one of the places
pub record Place (c j : ℕ) : Type 0 where
  pub count : c ≤ places
  pub from : 1 ≤ j
  pub to : j ≤ places

-- a count, and n places from place f on
pub record Stretch (c f n : ℕ) : Type 0 where
  pub count : c ≤ places
  pub from : 1 ≤ f
  pub to : f + n ≤ suc places

-- the run of a place, as the code hands it on
unfoldable pub run_at : ℕ → ℕ → Run
run_at c j = record { kind = cond (is_data c j) Data Stuff; last = last_of_run c j }

-- how many of the n places from f on are data, for any numbers: none where they are not all places
unfoldable pub data_in : ℕ → ℕ → ℕ → ℕ
data_in c f n = cond (outside_stretch c f n) 0 (data_from c f n)

-- r is the number of data places, and no more than there are places
pub record DataIn (c f n r : ℕ) : Type 0 where
  pub is : r ≡ data_in c f n
  pub few : r ≤ places
