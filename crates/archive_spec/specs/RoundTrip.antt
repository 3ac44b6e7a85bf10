-- Document 02, M-100: writing "agrees with reading both ways". The theorems are `write_read` of proofs/Written.antt and
-- `read_write` of proofs/Rewritten.antt. Assumes nothing: these are definitions.
use Rattle.std.specs.Prelude.{ℕ, ◌<◌, ◌≡◌, List, length, take, drop}
use Rattle.answer.specs.Rows.{done}
use Rattle.archive_spec.specs.File.{head_bytes, most_entries, most_head_bytes, start_of, count_in}
use Rattle.archive_spec.specs.Write.{nth, write_answer, write_leaves}
use Rattle.archive_spec.specs.Read.{open_answer, open_leaves, overwritten}

-- a file f that begins with what was written, and bodies behind it, is read as just those kinds, offsets and lengths, whatever the lists held; each
-- body stands where its entry says, and the last one ends the file
pub record WriteRead (n : ℕ) (kinds lengths head : List ℕ) (f : List ℕ) (body : ℕ → List ℕ) : Type 0 where
  pub begins : take (head_bytes n) f ≡ write_leaves n kinds lengths head
  pub answer : (k o l : List ℕ) → length k ≡ most_entries → length o ≡ most_entries → length l ≡ most_entries
      → open_answer (length f) (take most_head_bytes f) (length k) (length o) (length l) ≡ done n
  pub lists : (k o l : List ℕ) → length k ≡ most_entries → length o ≡ most_entries → length l ≡ most_entries
      → open_leaves (length f) (take most_head_bytes f) k o l
      ≡ (overwritten n (nth kinds) k, (overwritten n (start_of n (nth lengths)) o, overwritten n (nth lengths) l))
  pub stands : (e : ℕ) → e < n → take (nth lengths e) (drop (start_of n (nth lengths) e) f) ≡ body e
  pub end : length f ≡ start_of n (nth lengths) n

-- what was read, written, is the head that was read, and the file's size is the end of its last body
pub record ReadWrite (size : ℕ) (s : List ℕ) (left : List ℕ × (List ℕ × List ℕ)) : Type 0 where
  pub answer : (head : List ℕ) → length head ≡ head_bytes (count_in s)
      → write_answer (count_in s) (take (count_in s) left.0) (take (count_in s) left.1.1) (length head) ≡ done (head_bytes (count_in s))
  pub head : (head : List ℕ) → length head ≡ head_bytes (count_in s)
      → write_leaves (count_in s) (take (count_in s) left.0) (take (count_in s) left.1.1) head ≡ take (head_bytes (count_in s)) s
  pub offsets : (e : ℕ) → e < count_in s → nth left.1.0 e ≡ start_of (count_in s) (nth left.1.1) e
  pub end : start_of (count_in s) (nth left.1.1) (count_in s) ≡ size
