-- Flipping bits word by word is what demand 2 speaks of. Assumes nothing.
use Prim.Native.Nat.{ℕ, zero, suc, ◌/◌, ◌<◌}
use mathlib.Core.Path.{◌≡◌, refl}
use mathlib.Core.List.{List, [], ◌∷◌}
use native.Mathlib.Nat.{not-suc-le-zero, le_of_suc-le-suc}
use native.Mathlib.Omega.{arith}
use lib.ListN.{length, get_or}
use Rattle.sizes.specs.Sizes.{word_bytes, capture_length, words}
use Rattle.line_order.proofs.OrderLaws.{each_laid}
use Rattle.demand_laws.specs.Demand2.{flipped}
use Rattle.demands.specs.Demands.{flips_of}
use Rattle.demands.specs.Steps.{flipped_by, flipped_bytes}

-- the flips, a word at a time
pub flipped_bytes_law : (N : ℕ) (flips cap : List ℕ) → length cap ≡ capture_length N → flipped_bytes flips cap ≡ flipped N (flips_of flips) cap
unfolding flipped_bytes flipped
flipped_bytes_law N flips cap h = let e : length cap / word_bytes ≡ words N = omega arith in rw e (each_laid N (flipped_by flips) cap h)

-- within a list the default does not matter
pub get_d_any : (s : List ℕ) (k a b : ℕ) → k < length s → get_or s k a ≡ get_or s k b
get_d_any [] k a b h = absurd (not-suc-le-zero h)
get_d_any (x ∷ s) zero a b h = refl
get_d_any (x ∷ s) (suc k) a b h = get_d_any s k a b (le_of_suc-le-suc h)
