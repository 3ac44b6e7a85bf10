-- "given exactly when": what mapping and unmapping answer is exactly what their tables say. Assumes nothing.
use Prim.Native.Nat.{ℕ}
use mathlib.Core.Path.{◌≡◌, refl}
use mathlib.Core.List.{List, [], ◌∷◌}
use lib.ListN.{length}
use Rattle.answer.specs.Numbers.{wrong_length, spare_bit}
use Rattle.answer.specs.Rows.{wrong, FirstFault, rising, row_number}
use Rattle.answer.specs.Demand1.{Exactly}
use Rattle.answer.proofs.Table.{exactly}
use Rattle.answer.proofs.Buffers.{which_buffer}
use Rattle.sizes.specs.Sizes.{group_bytes, window_bytes}
use Rattle.gmp.specs.Places.{data_from}
use Rattle.gmp_window.specs.Windows.{groups_spare_set}
use Rattle.gmp_window.specs.Answers.{map_rows, map_answer, unmap_rows, unmap_answer}

pub map_exactly : (c f n : ℕ) (g : List ℕ) (l : ℕ) → Exactly (map_rows c f n g l) (data_from c f n) (map_answer c f n g l)
unfolding map_answer rising row_number
map_exactly c f n g l = exactly (map_rows c f n g l) (data_from c f n) refl

pub unmap_exactly : (c f n l k : ℕ) → Exactly (unmap_rows c f n l k) (data_from c f n) (unmap_answer c f n l k)
unfolding unmap_answer rising row_number
unmap_exactly c f n l k = exactly (unmap_rows c f n l k) (data_from c f n) refl

-- ---- number 2 names the first buffer whose length is wrong: of mapping groups and window, of unmapping window and groups

pub map_names : (c f n : ℕ) (g : List ℕ) (l : ℕ) → (map_answer c f n g l).number ≡ wrong_length
    → FirstFault 1 (wrong (group_bytes (data_from c f n)) (length g) ∷ wrong (window_bytes n) l ∷ []) (map_answer c f n g l).place
unfolding rising row_number
map_names c f n g l = which_buffer (_ ∷ []) wrong_length _ (_ ∷ []) (data_from c f n) refl (map_exactly c f n g l)

pub unmap_names : (c f n l k : ℕ) → (unmap_answer c f n l k).number ≡ wrong_length
    → FirstFault 1 (wrong (window_bytes n) l ∷ wrong (group_bytes (data_from c f n)) k ∷ []) (unmap_answer c f n l k).place
unfolding rising row_number
unmap_names c f n l k = which_buffer (_ ∷ []) wrong_length _ [] (data_from c f n) refl (unmap_exactly c f n l k)

-- and number 3 the groups, which alone have spare bits
pub map_names_spare : (c f n : ℕ) (g : List ℕ) (l : ℕ) → (map_answer c f n g l).number ≡ spare_bit
    → FirstFault 1 (groups_spare_set (data_from c f n) g ∷ []) (map_answer c f n g l).place
unfolding rising row_number
map_names_spare c f n g l = which_buffer (_ ∷ _ ∷ []) spare_bit _ [] (data_from c f n) refl (map_exactly c f n g l)
