-- Document 02, M-100: "Refusals: 10 fewer than 16 bytes or first bytes differ, 11 count missing or outside 1..32, or a kind outside 1..3 in a whole
-- entry, 12 an entry cut off, or an offset or the end not where the rule puts it, after 3 and in that order; place is the first such entry from 1, 0
-- for 10 and for a bad count, and the last entry where only the end is wrong." Reading is handed the file's size and its first bytes, as many as the
-- longest head has where the file has so many: it looks at nothing behind the table. Assumes nothing: these are definitions.
use Rattle.std.specs.Prelude.{ℕ, zero, suc, min, Bool, false, not, ◌&&◌, ◌||◌, List, [], ◌∷◌, ◌++◌, ltb, eqb, length, get_or, drop}
use Rattle.prelude.specs.Lists.{tabulate}
use Rattle.answer.specs.Numbers.{wrong_length, not_archive, bad_entry, misplaced}
use Rattle.answer.specs.Rows.{Row, whole, buffers, each, wrong, answer_of}
use Rattle.answer.specs.Outcomes.{written}
use Rattle.answer.specs.declared.Answer.{Answer}
use Rattle.archive_spec.specs.File.{fixed_bytes, head_bytes, most_entries, most_head_bytes, fixed, start_of}
use Rattle.archive_spec.specs.File.{count_in, kind_in, offset_in, length_in, count_outside, kind_outside}
use Rattle.archive_spec.specs.Write.{any_below}

-- ---- 10

-- byte k is not that of every capture file
abbrev pub fixed_differs : List ℕ → ℕ → Bool
fixed_differs s k = not (eqb (get_or s k 0) (get_or fixed k 0))

unfoldable pub is_no_archive : ℕ → List ℕ → Bool
is_no_archive size s = ltb size fixed_bytes || any_below (fixed_differs s) fixed_bytes

-- ---- 11 and 12, of the count, which is place 0, and of entry e, which is place e + 1

abbrev pub at_place : Bool → (ℕ → Bool) → ℕ → Bool
at_place count entry zero = count
at_place count entry (suc e) = entry e

-- the count is missing, or outside 1..32
unfoldable pub bad_count : ℕ → List ℕ → Bool
bad_count size s = ltb size (head_bytes 0) || count_outside (count_in s)

-- the file ends before entry e does
abbrev pub cut_off : ℕ → ℕ → Bool
cut_off size e = ltb size (head_bytes (suc e))

unfoldable pub bad_kind : ℕ → List ℕ → ℕ → Bool
bad_kind size s e = not (cut_off size e) && kind_outside (kind_in s e)

-- entry e of n is cut off, or its offset is not where the rule puts it, or it is the last and the end is not
unfoldable pub off_rule : ℕ → List ℕ → ℕ → ℕ → Bool
off_rule size s n e =
    cut_off size e || (not (eqb (offset_in s e) (start_of n (length_in s) e)) || eqb (suc e) n && not (eqb (start_of n (length_in s) n) size))

-- ---- the table of reading

-- number 2: the buffers are the first bytes and the three lists, and of them only the lengths are looked at
unfoldable pub open_early_rows : ℕ → ℕ → ℕ → ℕ → ℕ → List Row
open_early_rows size bytes kinds offsets lengths =
    buffers wrong_length (wrong (min size most_head_bytes) bytes ∷ wrong most_entries kinds ∷ wrong most_entries offsets ∷ wrong most_entries lengths ∷ []) ∷ []

-- numbers 10 to 12, of the file
unfoldable pub open_late_rows : ℕ → List ℕ → List Row
open_late_rows size s =
    whole not_archive (is_no_archive size s)
    ∷ each bad_entry (suc (count_in s)) (at_place (bad_count size s) (bad_kind size s))
    ∷ each misplaced (suc (count_in s)) (at_place false (off_rule size s (count_in s)))
    ∷ []

abbrev pub open_rows : ℕ → List ℕ → ℕ → ℕ → ℕ → List Row
open_rows size s kinds offsets lengths = open_early_rows size (length s) kinds offsets lengths ++ open_late_rows size s

-- the count is that of the entries
unfoldable pub open_answer : ℕ → List ℕ → ℕ → ℕ → ℕ → Answer
open_answer size s kinds offsets lengths = answer_of (open_rows size s kinds offsets lengths) (count_in s)

-- a list with its first n numbers overwritten; the others stay
abbrev pub overwritten : ℕ → (ℕ → ℕ) → List ℕ → List ℕ
overwritten n f old = tabulate n f ++ drop n old

abbrev pub table_in : List ℕ → List ℕ → List ℕ → List ℕ → List ℕ × (List ℕ × List ℕ)
table_in s kinds offsets lengths =
    (overwritten (count_in s) (kind_in s) kinds, (overwritten (count_in s) (offset_in s) offsets, overwritten (count_in s) (length_in s) lengths))

-- what the three lists hold afterwards
unfoldable pub open_leaves : ℕ → List ℕ → List ℕ → List ℕ → List ℕ → List ℕ × (List ℕ × List ℕ)
open_leaves size s kinds offsets lengths =
    written (open_answer size s (length kinds) (length offsets) (length lengths)) (table_in s kinds offsets lengths) (kinds, (offsets, lengths))
