-- Document 01, "GMP places": "A run is a longest stretch of places of one kind." Assumes nothing: these are definitions.
use Rattle.std.specs.Prelude.{ℕ, suc, ◌+◌, ◌-◌, ◌≤◌, ◌<◌, Bool, not, ◌≡◌}
use Rattle.std.specs.Bool.{beq}
use Rattle.prelude.specs.Loops.{first, count}
use Rattle.sizes.specs.Sizes.{places}
use Rattle.gmp.specs.Places.{is_data}

-- the place behind place j + k is of the other kind
unfoldable pub changes : ℕ → ℕ → ℕ → Bool
changes c j k = not (beq (is_data c (j + k)) (is_data c (suc (j + k))))

-- the last place of j's run: the first place from j on behind which the kind changes, or the last place of all (`last_ends`, `ends_last` of
-- proofs/Stretches.antt: it ends the run, and no other place does)
unfoldable pub last_of_run : ℕ → ℕ → ℕ
last_of_run c j = j + first (changes c j) (places - j)

-- the runs from j on, what is left of j's own counting as one: one more than there are changes, counted place by place
unfoldable pub runs_from : ℕ → ℕ → ℕ
runs_from c j = suc (count (changes c j) (places - j))

-- ---- what the definition means

-- l is the last place of the longest stretch of j's kind from j on
pub record EndsRun (c j l : ℕ) : Type 0 where
  pub from : j ≤ l
  pub to : l ≤ places
  pub same : (k : ℕ) → j ≤ k → k ≤ l → is_data c k ≡ is_data c j
  pub other : l < places → is_data c (suc l) ≡ not (is_data c j)
