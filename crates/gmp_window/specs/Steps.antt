-- The tables behind number 1, where the code has counted d data places. Assumes nothing: these are definitions.
use Rattle.std.specs.Prelude.{ℕ, List, [], ◌∷◌, length}
use Rattle.answer.specs.Numbers.{wrong_length, spare_bit}
use Rattle.answer.specs.Rows.{Row, buffers, wrong}
use Rattle.sizes.specs.Sizes.{group_bytes, window_bytes}
use Rattle.gmp_window.specs.Windows.{groups_spare_set}

abbrev pub map_late : ℕ → ℕ → List ℕ → ℕ → List Row
map_late n d g l =
    buffers wrong_length (wrong (group_bytes d) (length g) ∷ wrong (window_bytes n) l ∷ []) ∷ buffers spare_bit (groups_spare_set d g ∷ []) ∷ []

abbrev pub unmap_late : ℕ → ℕ → ℕ → ℕ → List Row
unmap_late n d l k = buffers wrong_length (wrong (window_bytes n) l ∷ wrong (group_bytes d) k ∷ []) ∷ []
