-- Document 01, "Captures" and "Numbers handed back": reading. One definition for the answer and one for every byte of information and
-- parity, for any bytes in the capture. Assumes nothing: these are definitions.
use Rattle.std.specs.Prelude.{ℕ, ◌*◌, Bool, true, not, ◌&&◌, List, [], ◌∷◌, ◌++◌, eqb, length}
use Rattle.bits.specs.Bits.{num}
use Rattle.prelude.specs.Loops.{count}
use Rattle.answer.specs.Numbers.{outside_set, wrong_length, beyond_repair, filler_not_zero, wrong_mbas, wrong_crc, pad_not_zero}
use Rattle.answer.specs.Rows.{Row, whole, buffers, each, wrong, answer_of}
use Rattle.answer.specs.Outcomes.{written}
use Rattle.answer.specs.declared.Answer.{Answer}
use Rattle.crc.specs.Crc.{crc_of}
use Rattle.hamming.specs.Code.{checks_of}
use Rattle.hamming.specs.Repair.{repair_of, found_number}
use Rattle.sizes.specs.Sizes.{info_bits, crc_bits, mbas_bits, mbas_from, fec_blocks, pad_from, pad_bits, info_length, parity_length, capture_length, words}
use Rattle.line.specs.Captures.{super_allowed}
use Rattle.line.specs.Fec.{mbas_allowed, mbas_of}
use Rattle.line.specs.Frames.{info_of, parity_of}
use Rattle.line.specs.Slots.{holds}
use Rattle.line_order.specs.Order.{word_in}
use Rattle.line.specs.Words.{super_in, fec_in}

-- word w of the capture, repaired
unfoldable pub repaired : List ℕ → ℕ → List ℕ
repaired cap w = (repair_of (word_in cap w)).word

-- a word of nothing but zeros
unfoldable pub all_zero : List ℕ → Bool
all_zero [] = true
all_zero (x ∷ s) = eqb x 0 && all_zero s

-- ---- the rows of the table that only reading has

-- 4, of word w: it is beyond repair
unfoldable pub is_beyond : List ℕ → ℕ → Bool
is_beyond cap w = eqb (found_number (repair_of (word_in cap w)).found) beyond_repair

-- 5, of word w: it is filler, and not zero after repair
unfoldable pub is_filled : ℕ → List ℕ → ℕ → Bool
is_filled N cap w = not (holds N w) && not (all_zero (repaired cap w))

-- 6, of FEC block t: its MBAS is not the expected number
unfoldable pub mbas_differs : ℕ → List ℕ → ℕ → Bool
mbas_differs m0 cap t = not (eqb (num mbas_bits (fec_in (repaired cap) t) mbas_from) (mbas_of m0 t))

-- 7, of FEC block t: its CRC is not that of its information
unfoldable pub crc_differs : List ℕ → ℕ → Bool
crc_differs cap t = not (eqb (num crc_bits (fec_in (repaired cap) t) info_bits) (crc_of info_bits (fec_in (repaired cap) t)))

-- 8, of super frame f: its pad bits are not all zero
unfoldable pub pad_differs : List ℕ → ℕ → Bool
pad_differs cap f = not (eqb (num pad_bits (super_in (repaired cap) f) pad_from) 0)

-- what is counted: the nine checks of word w are not zero
unfoldable pub is_seen : List ℕ → ℕ → Bool
is_seen cap w = not (eqb (checks_of (word_in cap w)) 0)

-- ---- the answer

-- numbers 1 and 2, from the numbers and the buffers' lengths; buffers as document 01 names them, inputs first
unfoldable pub read_early_rows : ℕ → ℕ → ℕ → ℕ → ℕ → List Row
read_early_rows N m0 cap info par =
    whole outside_set (not (super_allowed N && mbas_allowed m0))
    ∷ buffers wrong_length (wrong (capture_length N) cap ∷ wrong (info_length N) info ∷ wrong (parity_length N) par ∷ [])
    ∷ []

-- numbers 4 to 8, from the capture
unfoldable pub read_late_rows : ℕ → ℕ → List ℕ → List Row
read_late_rows N m0 cap =
    each beyond_repair (words N) (is_beyond cap)
    ∷ each filler_not_zero (words N) (is_filled N cap)
    ∷ each wrong_mbas (fec_blocks * N) (mbas_differs m0 cap)
    ∷ each wrong_crc (fec_blocks * N) (crc_differs cap)
    ∷ each pad_not_zero N (pad_differs cap)
    ∷ []

abbrev pub read_rows : ℕ → ℕ → List ℕ → List ℕ → List ℕ → List Row
read_rows N m0 cap info par = read_early_rows N m0 (length cap) (length info) (length par) ++ read_late_rows N m0 cap

unfoldable pub read_answer : ℕ → ℕ → List ℕ → List ℕ → List ℕ → Answer
read_answer N m0 cap info par = answer_of (read_rows N m0 cap info par) (count (is_seen cap) (words N))

-- what is given back where it is done: information, and parity
abbrev pub given : ℕ → List ℕ → List ℕ × List ℕ
given N cap = (info_of N (fec_in (repaired cap)), parity_of N (fec_in (repaired cap)))

-- what the two buffers hold afterwards
unfoldable pub read_leaves : ℕ → ℕ → List ℕ → List ℕ → List ℕ → List ℕ × List ℕ
read_leaves N m0 cap info par = written (read_answer N m0 cap info par) (given N cap) (info, par)
