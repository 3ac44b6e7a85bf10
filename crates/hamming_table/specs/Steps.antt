-- The same by tables that were made once and are lent. The definitions that take a table say what comes of any table; the laws (`proofs/Tabled`)
-- say that with this table, and those of `hamming_matrix`, it is the code's. Assumes nothing: these are definitions.
use Rattle.std.specs.Prelude.{ℕ, ◌+◌, ◌*◌, ◌/◌, ◌%◌, ◌^◌, ◌<◌, List, ◌≡◌, get_or, length}
use Rattle.std.specs.Int.Bits.{bit_xor}
use Rattle.prelude.specs.Lists.{tabulate}
use Rattle.bits.specs.Bits.{bit_at}
use Rattle.sizes.specs.Sizes.{check_bits, word_bytes}
use Rattle.hamming_matrix.specs.Sums.{sum_to}
use Rattle.hamming.specs.Steps.{byte_sum}
use Rattle.hamming.specs.Code.{joined_word}

-- the table of bytes: what byte k adds to the checks where it is x stands at 256 k + x
unfoldable pub byte_entry : ℕ → ℕ
byte_entry e = byte_sum (e / 256) (e % 256)

abbrev pub byte_table : List ℕ
byte_table = tabulate (256 * word_bytes) byte_entry

-- the sum over a word's bytes of what a table has for them
unfoldable pub entry_at : List ℕ → List ℕ → ℕ → ℕ
entry_at t w k = get_or t (256 * k + get_or w k 0) 0

unfoldable pub sum_by_tables : List ℕ → List ℕ → ℕ
sum_by_tables t w = sum_to (entry_at t w) word_bytes

-- the word of an element by two tables
unfoldable pub word_by_tables : List ℕ → List ℕ → List ℕ → List ℕ
word_by_tables t tails e = joined_word (bit_at e) (get_or tails (sum_by_tables t (joined_word (bit_at e) 0)) 0 % 2 ^ check_bits)

-- ---- how the table of bytes is made: an entry with one bit more is the entry without it, and the column of that bit

-- the first m entries of t, which has 256 for each byte of a word, are those of the table
pub record EntriesBegun (m : ℕ) (t : List ℕ) : Type 0 where
  pub long : length t ≡ 256 * word_bytes
  pub first : (e : ℕ) → e < m → get_or t e 0 ≡ byte_entry e

-- the entries from a + n on are the n before them, c added to each
abbrev pub Doubles : ℕ → ℕ → ℕ → Type 0
Doubles a n c = (r : ℕ) → r < n → byte_entry (a + n + r) ≡ bit_xor (byte_entry (a + r)) c
