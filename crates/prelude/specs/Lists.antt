-- Lists made from functions, and a function from an index on. Assumes nothing: these are definitions.
use Rattle.std.specs.Prelude.{ℕ, zero, suc, ◌+◌, List, [], ◌∷◌}

-- f 0, f 1, .., f (n - 1)
unfoldable pub tabulate : {A : Type 0} → ℕ → (ℕ → A) → List A
tabulate zero f = []
tabulate (suc n) f = f zero ∷ tabulate n (λ k. f (suc k))

-- the values of f from index a on
abbrev pub from_index : {A : Type 0} → (ℕ → A) → ℕ → ℕ → A
from_index f a i = f (a + i)
