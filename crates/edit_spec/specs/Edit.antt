-- Document 01, "Captures": an edit of one client block and the parity of its FEC block, in any capture whose listed words pass their
-- checks. One definition each for the answer, every byte of the capture and every entry of the list. Assumes nothing: these are definitions.
use Rattle.std.specs.Prelude.{ℕ, zero, suc, ◌+◌, ◌-◌, ◌*◌, ◌/◌, ◌%◌, Bool, false, cond, not, ◌&&◌, ◌||◌, List, [], ◌∷◌, ◌++◌, ltb, leb, eqb, length, drop}
use Rattle.bits.specs.Bits.{num, digit, bit_at, added}
use Rattle.prelude.specs.Loops.{count}
use Rattle.answer.specs.Numbers.{outside_set, wrong_length, spare_bit, listed_fails}
use Rattle.answer.specs.Rows.{Row, whole, buffers, each, wrong, answer_of}
use Rattle.answer.specs.Outcomes.{written}
use Rattle.answer.specs.declared.Answer.{Answer}
use Rattle.crc.specs.Crc.{crc_rem}
use Rattle.hamming.specs.Code.{checks_of}
use Rattle.sizes.specs.Sizes.{block_bytes, list_length, blocks_of, block_bits, client_blocks, info_bits, crc_bits, mbas_from, parity_from, parity_bytes, fec_blocks}
use Rattle.sizes.specs.Sizes.{element_bits, super_elements, fec_elements, capture_length, words}
use Rattle.line.specs.Captures.{super_allowed}
use Rattle.line.specs.Fec.{fields}
use Rattle.line.specs.Slots.{element_in, holds}
use Rattle.line_order.specs.Order.{laid, word_in}
use Rattle.line.specs.Words.{words_of, fec_in}

-- ---- the bits of an FEC block, edited. Client block b lies in FEC block b / 952, from bit 257 (b mod 952) on

abbrev pub fec_of : ℕ → ℕ
fec_of b = b / client_blocks

abbrev pub block_from : ℕ → ℕ
block_from b = block_bits * (b % client_blocks)

unfoldable pub in_block : ℕ → ℕ → Bool
in_block b i = leb (block_from b) i && ltb i (block_from b + block_bits)

-- the bits f, those of the client block replaced
unfoldable pub replaced : ℕ → List ℕ → (ℕ → ℕ) → ℕ → ℕ
replaced b bits f i = cond (in_block b i) (bit_at bits (i - block_from b)) (f i)

-- the bits that change, at their places
unfoldable pub change : ℕ → List ℕ → (ℕ → ℕ) → ℕ → ℕ
change b bits f = added f (replaced b bits f)

-- "the CRC field changes by the remainder of the changed bits, at their places and times x^32, without complements"
unfoldable pub crc_change : ℕ → List ℕ → (ℕ → ℕ) → ℕ
crc_change b bits f = crc_rem (change b bits f) info_bits

unfoldable pub new_crc : ℕ → List ℕ → (ℕ → ℕ) → ℕ → ℕ
new_crc b bits f j = (f (info_bits + j) + digit crc_bits (crc_change b bits f) j) % 2

-- the MBAS stays, the parity is replaced
unfoldable pub kept_mbas : (ℕ → ℕ) → ℕ → ℕ
kept_mbas f j = f (mbas_from + j)

unfoldable pub edited_bits : ℕ → List ℕ → List ℕ → (ℕ → ℕ) → ℕ → ℕ
edited_bits b bits parity f = fields (replaced b bits f) (new_crc b bits f) (kept_mbas f) (bit_at parity)

-- FEC blocks with the bits F, that of the client block edited
unfoldable pub edited_fec : ℕ → List ℕ → List ℕ → (ℕ → ℕ → ℕ) → ℕ → ℕ → ℕ
edited_fec b bits parity F t = cond (eqb t (fec_of b)) (edited_bits b bits parity (F t)) (F t)

-- ---- which words are listed

-- bit i of an FEC block is one of the client block, of the CRC or of the parity
unfoldable pub touched : ℕ → ℕ → Bool
touched b i = in_block b i || (leb info_bits i && ltb i mbas_from) || leb parity_from i

-- element e is one of FEC block t, its local element m: bit i of it is bit 119 m + i of the block (`element_of_law` of proofs/Remaking.antt)
unfoldable pub element_fec : ℕ → ℕ
element_fec e = fec_blocks * (e / super_elements) + e % super_elements / fec_elements

unfoldable pub element_local : ℕ → ℕ
element_local e = e % super_elements % fec_elements

unfoldable pub is_pad : ℕ → Bool
is_pad e = leb (fec_elements * fec_blocks) (e % super_elements)

-- one of the n bits from bit i of an FEC block on is touched
unfoldable pub touches : ℕ → ℕ → ℕ → Bool
touches b i zero = false
touches b i (suc n) = touches b i n || touched b (i + n)

-- word w of N super frames holds a bit of the block, of its FEC block's CRC or of its parity
unfoldable pub listed : ℕ → ℕ → ℕ → Bool
listed N b w =
    holds N w && not (is_pad (element_in w)) && eqb (element_fec (element_in w)) (fec_of b)
    && touches b (element_bits * element_local (element_in w)) element_bits

-- the numbers below n that p picks, rising: `list_is` of proofs/Promises.antt says what the list made so is
unfoldable pub picked : (ℕ → Bool) → ℕ → List ℕ
picked p zero = []
picked p (suc n) = picked p n ++ cond (p n) (n ∷ []) []

-- the listed words
unfoldable pub list_of : ℕ → ℕ → List ℕ
list_of N b = picked (listed N b) (words N)

-- ---- the capture edited: a listed word is made anew, check bits and all; every other word stays

unfoldable pub edited_word : ℕ → ℕ → List ℕ → List ℕ → List ℕ → ℕ → List ℕ
edited_word N b bits parity cap w =
    cond (listed N b w) (words_of N (edited_fec b bits parity (fec_in (word_in cap))) w) (word_in cap w)

unfoldable pub edited_capture : ℕ → ℕ → List ℕ → List ℕ → List ℕ → List ℕ
edited_capture N b bits parity cap = laid N (edited_word N b bits parity cap)

-- ---- the answer

-- the seven spare bits of the client block are not all zero
unfoldable pub client_spare_set : List ℕ → Bool
client_spare_set bits = not (eqb (num 7 (bit_at bits) block_bits) 0)

-- 9, of word w: it is to be listed, and fails a check
unfoldable pub fails : ℕ → ℕ → List ℕ → ℕ → Bool
fails N b cap w = listed N b w && not (eqb (checks_of (word_in cap w)) 0)

-- numbers 1 to 3, from the numbers, the buffers' lengths and whether a spare bit is set; buffers as document 01 names them, inputs first
unfoldable pub edit_early_rows : ℕ → ℕ → ℕ → ℕ → ℕ → ℕ → Bool → List Row
edit_early_rows N b bits parity cap list spare =
    whole outside_set (not (super_allowed N && ltb b (blocks_of N)))
    ∷ buffers wrong_length (wrong block_bytes bits ∷ wrong parity_bytes parity ∷ wrong (capture_length N) cap ∷ wrong list_length list ∷ [])
    ∷ buffers spare_bit (spare ∷ [])
    ∷ []

-- number 9, from the capture
unfoldable pub edit_late_rows : ℕ → ℕ → List ℕ → List Row
edit_late_rows N b cap = each listed_fails (words N) (fails N b cap) ∷ []

abbrev pub edit_rows : ℕ → ℕ → List ℕ → List ℕ → List ℕ → List ℕ → List Row
edit_rows N b bits parity cap list =
    edit_early_rows N b (length bits) (length parity) (length cap) (length list) (client_spare_set bits) ++ edit_late_rows N b cap

-- the count is how many words were listed
unfoldable pub edit_answer : ℕ → ℕ → List ℕ → List ℕ → List ℕ → List ℕ → Answer
edit_answer N b bits parity cap list = answer_of (edit_rows N b bits parity cap list) (count (listed N b) (words N))

-- what the capture and the list hold where it is done; entries past the listed words stay
abbrev pub edited : ℕ → ℕ → List ℕ → List ℕ → List ℕ → List ℕ → List ℕ × List ℕ
edited N b bits parity cap list = (edited_capture N b bits parity cap, list_of N b ++ drop (count (listed N b) (words N)) list)

-- what they hold afterwards
unfoldable pub edit_leaves : ℕ → ℕ → List ℕ → List ℕ → List ℕ → List ℕ → List ℕ × List ℕ
edit_leaves N b bits parity cap list = written (edit_answer N b bits parity cap list) (edited N b bits parity cap list) (cap, list)
