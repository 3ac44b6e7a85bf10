-- The (128, 119) code of 001 section 10.5: a word is sixteen bytes, whose first 119 bits are the element's and whose last nine make all
-- nine checks zero. Assumes nothing: these are definitions.
use Rattle.std.specs.Prelude.{ℕ, ◌-◌, ◌/◌, ◌%◌, ◌^◌, cond, List, ltb, get_or, set}
use Rattle.std.specs.Int.Bits.{bit_xor}
use Rattle.bits.specs.Bits.{digit, bit_at, pack}
use Rattle.sizes.specs.Sizes.{element_bits, word_bits, check_bits, word_bytes}
use Rattle.hamming_matrix.specs.Sums.{sum_to, column_taken, tail_of}

-- the nine checks of a word, as a number: the row of s0 on top
unfoldable pub checks_of : List ℕ → ℕ
checks_of w = sum_to (column_taken 0 (bit_at w)) word_bits

-- the word with bit i flipped: the top bit of a byte is 128
unfoldable pub flip : List ℕ → ℕ → List ℕ
flip w i = set w (i / 8) (bit_xor (get_or w (i / 8) 0) (128 / 2 ^ (i % 8)))

-- what 119 bits add to the checks
unfoldable pub element_sum : (ℕ → ℕ) → ℕ
element_sum f = sum_to (column_taken 0 f) element_bits

-- the 119 bits f, and then the nine bits p
unfoldable pub joined : (ℕ → ℕ) → ℕ → ℕ → ℕ
joined f p i = cond (ltb i element_bits) (f i) (digit check_bits p (i - element_bits))

abbrev pub joined_word : (ℕ → ℕ) → ℕ → List ℕ
joined_word f p = pack word_bytes (joined f p)

-- the code word of the 119 bits f 0 .. f 118: the check bits add what the others add, so that all checks are zero (`coded_checks` of
-- proofs/Words.antt), and no other word with these bits has that (`coded_only`)
unfoldable pub coded : (ℕ → ℕ) → List ℕ
coded f = joined_word f (tail_of (element_sum f))

-- the code word of an element, whose bits 119 .. 127 are ignored
abbrev pub code_word : List ℕ → List ℕ
code_word e = coded (bit_at e)
