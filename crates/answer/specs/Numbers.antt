-- Document 01, "Numbers handed back": the table's numbers, named once. Assumes nothing: these are definitions.
use Rattle.std.specs.Prelude.{ℕ}

-- done
abbrev pub all_done : ℕ
all_done = 0

-- a number is outside its stated set
abbrev pub outside_set : ℕ
outside_set = 1

-- a buffer's length is not the stated one; its place is the buffer
abbrev pub wrong_length : ℕ
wrong_length = 2

-- a spare bit is not zero; its place is the buffer
abbrev pub spare_bit : ℕ
spare_bit = 3

-- reading: a word beyond repair; its place is the word
abbrev pub beyond_repair : ℕ
beyond_repair = 4

-- reading: a filler word not zero after repair; its place is the word
abbrev pub filler_not_zero : ℕ
filler_not_zero = 5

-- reading: MBAS not the expected number; its place is the FEC block of the capture
abbrev pub wrong_mbas : ℕ
wrong_mbas = 6

-- reading: CRC wrong; its place is the FEC block of the capture
abbrev pub wrong_crc : ℕ
wrong_crc = 7

-- reading: pad not zero; its place is the super frame
abbrev pub pad_not_zero : ℕ
pad_not_zero = 8

-- edit: a word to be listed fails a check; its place is the word
abbrev pub listed_fails : ℕ
listed_fails = 9

-- archive: fewer than 16 bytes, or the first bytes differ
abbrev pub not_archive : ℕ
not_archive = 10

-- archive: count missing or outside 1..32, or a kind outside 1..3 in a whole entry; its place is the entry
abbrev pub bad_entry : ℕ
bad_entry = 11

-- archive: an entry cut off, or an offset or the end not where the rule puts it; its place is the entry
abbrev pub misplaced : ℕ
misplaced = 12
