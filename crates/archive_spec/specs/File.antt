-- Document 02, M-100: "It begins with the exact 16 bytes `400ZR CAPTURE 1` and a line feed, then a table of contents, then the bodies. The table is a
-- two-byte count 1..32 and, for each body, a kind byte (1 information, 2 parity, 3 capture), a four-byte offset and a four-byte length, high byte
-- first. Bodies stand in table order, touching each other and the table, to the end of the file." Entries count from 0 here, and from 1 in places.
-- Assumes nothing: these are definitions.
use Rattle.std.specs.Prelude.{ℕ, ◌+◌, ◌*◌, Bool, ◌||◌, List, [], ◌∷◌, ◌++◌, ltb}
use Rattle.prelude.specs.Loops.{upto}
use Rattle.bits.specs.Bits.{num, digit, bit_at, pack}

-- ---- sizes, in bytes: the fixed bytes; the count, a kind, an offset or a length; an entry; the head of n entries, behind which entry n would begin

abbrev pub fixed_bytes : ℕ
fixed_bytes = 16

abbrev pub count_bytes : ℕ
count_bytes = 2

abbrev pub kind_bytes : ℕ
kind_bytes = 1

abbrev pub field_bytes : ℕ
field_bytes = 4

abbrev pub entry_bytes : ℕ
entry_bytes = 9

abbrev pub head_bytes : ℕ → ℕ
head_bytes n = 18 + entry_bytes * n

-- the most entries, the bytes of their head, and the most that a four-byte field holds
abbrev pub most_entries : ℕ
most_entries = 32

abbrev pub most_head_bytes : ℕ
most_head_bytes = 306

abbrev pub field_most : ℕ
field_most = 4294967295

-- ---- numbers in bytes

-- "high byte first": the k bytes of a number
abbrev pub bytes_of : ℕ → ℕ → List ℕ
bytes_of k x = pack k (digit (8 * k) x)

-- the number that the k bytes from byte a on are
unfoldable pub number_at : ℕ → List ℕ → ℕ → ℕ
number_at k s a = num (8 * k) (bit_at s) (8 * a)

-- ---- the file, of n entries with their kinds, lengths and bodies

-- `400ZR CAPTURE 1` and a line feed
unfoldable pub fixed : List ℕ
fixed = 52 ∷ 48 ∷ 48 ∷ 90 ∷ 82 ∷ 32 ∷ 67 ∷ 65 ∷ 80 ∷ 84 ∷ 85 ∷ 82 ∷ 69 ∷ 32 ∷ 49 ∷ 10 ∷ []

-- where entry e's body begins: behind the head and the bodies before it. Where entry n's would begin is the end of the file
unfoldable pub start_of : ℕ → (ℕ → ℕ) → ℕ → ℕ
start_of n len e = upto (λ k from. from + len k) (head_bytes n) e

unfoldable pub table_entry : ℕ → ℕ → ℕ → List ℕ
table_entry kind offset len = bytes_of kind_bytes kind ++ (bytes_of field_bytes offset ++ bytes_of field_bytes len)

-- the head as far as entry e, and all of it
unfoldable pub head_to : ℕ → (ℕ → ℕ) → (ℕ → ℕ) → ℕ → List ℕ
head_to n kind len e = upto (λ k s. s ++ table_entry (kind k) (start_of n len k) (len k)) (fixed ++ bytes_of count_bytes n) e

abbrev pub head_of : ℕ → (ℕ → ℕ) → (ℕ → ℕ) → List ℕ
head_of n kind len = head_to n kind len n

-- and the bodies behind it
unfoldable pub file_of : ℕ → (ℕ → ℕ) → (ℕ → ℕ) → (ℕ → List ℕ) → ℕ → List ℕ
file_of n kind len body e = upto (λ k s. s ++ body k) (head_of n kind len) e

-- ---- the table back: the count, and the three fields of entry e

abbrev pub count_in : List ℕ → ℕ
count_in s = number_at count_bytes s fixed_bytes

abbrev pub kind_in : List ℕ → ℕ → ℕ
kind_in s e = number_at kind_bytes s (head_bytes e)

abbrev pub offset_in : List ℕ → ℕ → ℕ
offset_in s e = number_at field_bytes s (head_bytes e + 1)

abbrev pub length_in : List ℕ → ℕ → ℕ
length_in s e = number_at field_bytes s (head_bytes e + 5)

-- ---- which counts and kinds there are

abbrev pub count_outside : ℕ → Bool
count_outside n = ltb n 1 || ltb most_entries n

abbrev pub kind_outside : ℕ → Bool
kind_outside k = ltb k 1 || ltb 3 k
