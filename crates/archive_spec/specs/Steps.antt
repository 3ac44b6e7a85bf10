-- What only the code's steps need. Assumes nothing: these are definitions.
use Rattle.std.specs.Prelude.{ℕ, suc, ◌+◌, ◌*◌, ◌^◌, ◌<◌, ◌≤◌, Bool, false, cond, not, ◌&&◌, ◌||◌, ◌≡◌, List, ◌++◌, Option, Some, None, ltb, eqb, length, take, drop}
use Rattle.prelude.specs.Loops.{first}
use Rattle.answer.specs.Numbers.{bad_entry, misplaced}
use Rattle.answer.specs.Rows.{done, refused}
use Rattle.answer.specs.declared.Answer.{Answer}
use Rattle.archive_spec.specs.File.{head_bytes, start_of, head_to, most_entries, field_most, number_at, count_outside, kind_outside, offset_in}
use Rattle.archive_spec.specs.Write.{nth, entry_outside}
use Rattle.archive_spec.specs.Read.{cut_off, bad_kind, off_rule, overwritten}

-- the k bytes from byte a of entry e on
abbrev pub field_in : ℕ → ℕ → List ℕ → ℕ → ℕ
field_in k a s e = number_at k s (head_bytes e + a)

-- a number that was read, and that k bytes can hold
pub record Number (k : ℕ) (s : List ℕ) (a r : ℕ) : Type 0 where
  pub is : r ≡ number_at k s a
  pub small : r < 2 ^ (8 * k)

-- a buffer d with s in its place from `at` on
unfoldable pub placed : List ℕ → ℕ → List ℕ → List ℕ
placed d at s = take at d ++ (s ++ drop (at + length s) d)

-- an entry by its three numbers, where its body begins at `from`
unfoldable pub outside_at : ℕ → ℕ → ℕ → Bool
outside_at kind from len = kind_outside kind || (ltb field_most len || ltb field_most from)

unfoldable pub off_rule_at : ℕ → List ℕ → ℕ → ℕ → ℕ → ℕ → Bool
off_rule_at size s n e from len = cut_off size e || (not (eqb (offset_in s e) from) || eqb (suc e) n && not (eqb (from + len) size))

-- the count missing or outside its set
abbrev pub bad_count_of : ℕ → ℕ → Bool
bad_count_of size n = ltb size (head_bytes 0) || count_outside n

-- the place, counted from 1, of the first of n entries that a test picks
unfoldable pub place_found : (ℕ → Bool) → ℕ → Option ℕ
place_found p n = cond (ltb (first p n) n) (Some (first p n + 1)) None

-- what is answered of n entries, by the first that are bad
unfoldable pub entries_answer : ℕ → List ℕ → ℕ → Answer
entries_answer size s n =
    let bad = first (bad_kind size s) n in
    let off = first (off_rule size s n) n in
    cond (ltb bad n) (refused bad_entry (bad + 1)) (cond (ltb off n) (refused misplaced (off + 1)) (done n))

-- three numbers that their fields hold
pub record Inside (kind from len : ℕ) : Type 0 where
  pub kind_inside : kind_outside kind ≡ false
  pub from_inside : from ≤ field_most
  pub len_inside : len ≤ field_most

-- what a granted write has shown
pub record Head (n : ℕ) (kinds lengths head : List ℕ) : Type 0 where
  pub few : n ≤ most_entries
  pub kinds_long : length kinds ≡ n
  pub lengths_long : length lengths ≡ n
  pub head_long : length head ≡ head_bytes n
  pub inside : (e : ℕ) → e < n → entry_outside n (nth kinds) (nth lengths) e ≡ false

-- the buffer `head` as far as entry e, whose body begins at `from`
pub record HeadUpTo (n : ℕ) (kinds lengths : List ℕ) (e : ℕ) (head : List ℕ) (from : ℕ) : Type 0 where
  pub within : e ≤ n
  pub long : length head ≡ head_bytes n
  pub is : take (head_bytes e) head ≡ head_to n (nth kinds) (nth lengths) e
  pub begins : from ≡ start_of n (nth lengths) e

-- lists that have room for n entries
pub record Room (n kinds offsets lengths : ℕ) : Type 0 where
  pub few : n ≤ most_entries
  pub kinds_long : kinds ≡ most_entries
  pub offsets_long : offsets ≡ most_entries
  pub lengths_long : lengths ≡ most_entries

-- and what they hold when n entries of s are listed in them: k, o and l
pub record Listed (n : ℕ) (s kinds offsets lengths k o l : List ℕ) : Type 0 where
  pub kinds_are : k ≡ overwritten n (field_in 1 0 s) kinds
  pub offsets_are : o ≡ overwritten n (field_in 4 1 s) offsets
  pub lengths_are : l ≡ overwritten n (field_in 4 5 s) lengths
