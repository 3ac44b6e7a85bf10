-- What mapping and unmapping answer, for any input: document 01, "GMP places" and "Numbers handed back". Assumes nothing: these are definitions.
use Rattle.std.specs.Prelude.{ℕ, List, [], ◌∷◌, length}
use Rattle.answer.specs.Numbers.{outside_set, wrong_length, spare_bit}
use Rattle.answer.specs.Rows.{Row, whole, buffers, wrong, answer_of}
use Rattle.answer.specs.declared.Answer.{Answer}
use Rattle.gmp.specs.Places.{data_from}
use Rattle.sizes.specs.Sizes.{group_bytes, window_bytes}
use Rattle.gmp_window.specs.Windows.{outside_window, groups_spare_set}

-- the table of mapping the groups g into a window of l bytes: the buffers are the groups and the window
abbrev pub map_rows : ℕ → ℕ → ℕ → List ℕ → ℕ → List Row
map_rows c f n g l =
    whole outside_set (outside_window c f n)
    ∷ buffers wrong_length (wrong (group_bytes (data_from c f n)) (length g) ∷ wrong (window_bytes n) l ∷ [])
    ∷ buffers spare_bit (groups_spare_set (data_from c f n) g ∷ [])
    ∷ []

-- the count is d
unfoldable pub map_answer : ℕ → ℕ → ℕ → List ℕ → ℕ → Answer
map_answer c f n g l = answer_of (map_rows c f n g l) (data_from c f n)

-- the table of unmapping a window of l bytes into groups of k bytes: the buffers are the window and the groups
abbrev pub unmap_rows : ℕ → ℕ → ℕ → ℕ → ℕ → List Row
unmap_rows c f n l k =
    whole outside_set (outside_window c f n)
    ∷ buffers wrong_length (wrong (window_bytes n) l ∷ wrong (group_bytes (data_from c f n)) k ∷ [])
    ∷ []

-- the count is d
unfoldable pub unmap_answer : ℕ → ℕ → ℕ → ℕ → ℕ → Answer
unmap_answer c f n l k = answer_of (unmap_rows c f n l k) (data_from c f n)
