-- The parts in which the code reads a capture: what its private functions are asked and answer. The laws (`proofs/`) say that together
-- they are `specs/Read`. Assumes nothing: these are definitions.
use Rattle.std.specs.Prelude.{ℕ, Option, Some, None, ◌+◌, ◌-◌, ◌*◌, ◌/◌, ◌%◌, ◌≤◌, ◌<◌, Bool, not, cond, ◌≡◌, List, eqb, length}
use Rattle.prelude.specs.Lists.{from_index}
use Rattle.bits.specs.Bits.{num, bit_at, pack}
use Rattle.prelude.specs.Loops.{count}
use Rattle.answer.specs.Numbers.{beyond_repair, filler_not_zero, wrong_mbas, wrong_crc, pad_not_zero}
use Rattle.answer.specs.Rows.{done, refused}
use Rattle.answer.specs.Outcomes.{written}
use Rattle.answer.specs.declared.Answer.{Answer}
use Rattle.answer.specs.Steps.{first_found}
use Rattle.crc.specs.Crc.{crc_of}
use Rattle.scrambler.specs.Scrambler.{o}
use Rattle.hamming.specs.Code.{joined_word}
use Rattle.hamming_matrix.specs.Steps.{position_table}
use Rattle.hamming_table.specs.Steps.{byte_table}
use Rattle.sizes.specs.Sizes.{info_bits, crc_bits, mbas_bits, parity_bits, mbas_from, parity_from, fec_bits, fec_blocks, pad_from, pad_bits, super_bytes, info_length}
use Rattle.sizes.specs.Sizes.{element_bits, super_elements, parity_length, capture_length, words, most_frames, check_bits}
use Rattle.line.specs.Fec.{mbas_of}
use Rattle.line.specs.Frames.{info_of, parity_of}
use Rattle.line.specs.Words.{element_from, super_in, fec_in}
use Rattle.read_spec.specs.Read.{repaired, is_beyond, is_filled, mbas_differs, crc_differs, pad_differs, is_seen}
use Rattle.read_spec.specs.declared.WordTally.{WordTally}
use Rattle.read_spec.specs.declared.BlockTally.{BlockTally}

-- ---- what `judge` has shown where it gives neither number 1 nor 2
pub record AcceptedRead (N : ℕ) (cap info par : List ℕ) : Type 0 where
  pub some : 0 < N
  pub few : N ≤ most_frames
  pub capture : length cap ≡ capture_length N
  pub information : length info ≡ info_length N
  pub parity : length par ≡ parity_length N

-- ---- tables made once and lent

pub record Tables (t positions : List ℕ) : Type 0 where
  pub checks : t ≡ byte_table
  pub places : positions ≡ position_table

-- the scrambler's sequence of a super frame, and a byte more, so that none has to be tested
abbrev pub sequence_bytes : ℕ
sequence_bytes = super_bytes + 1

abbrev pub sequence : List ℕ
sequence = pack sequence_bytes o

-- ---- a search that goes on to the end

-- x is what was found among k places, and place k is taken in
abbrev pub sought_of : Option ℕ → ℕ → Bool → Option ℕ
sought_of (Some p) k here = Some p
sought_of None k here = cond here (Some k) None

-- ---- words

-- the first k words: the first beyond repair, the first filler that is not zero, how many have checks that are not zero
abbrev pub words_to : ℕ → List ℕ → ℕ → WordTally
words_to N cap k = record { beyond = first_found (is_beyond cap) k; filler = first_found (is_filled N cap) k; seen = count (is_seen cap) k }

-- ---- a super frame in bytes

abbrev pub frame_of : List ℕ → ℕ → List ℕ
frame_of cap f = pack super_bytes (super_in (repaired cap) f)

-- element l begins within a byte; its first whole byte is this one
abbrev pub first_whole_byte : ℕ → ℕ
first_whole_byte l = 15 * l - l / 8

-- an element's 119 bits, and the first nine of the one after it
abbrev pub followed : List ℕ → List ℕ → List ℕ
followed a b = joined_word (bit_at a) (num check_bits (bit_at b) 0)

-- bit k of super frame f as it was received, of the words W: still scrambled
unfoldable pub received_in : (ℕ → List ℕ) → ℕ → ℕ → ℕ
received_in W f k = element_from W (super_elements * f + k / element_bits) (k % element_bits)

-- ---- its FEC blocks, out of its bytes s; block b of the super frame is block t of the capture

unfoldable pub mbas_off : ℕ → List ℕ → ℕ → ℕ → Bool
mbas_off m0 s t b = not (eqb (num mbas_bits (bit_at s) (fec_bits * b + mbas_from)) (mbas_of m0 t))

unfoldable pub crc_off : List ℕ → ℕ → Bool
crc_off s b = not (eqb (num crc_bits (bit_at s) (fec_bits * b + info_bits)) (crc_of info_bits (from_index (bit_at s) (fec_bits * b))))

unfoldable pub pad_off : List ℕ → Bool
pad_off s = not (eqb (num pad_bits (bit_at s) pad_from) 0)

-- block b of super frame f is taken in
unfoldable pub block_taken : ℕ → List ℕ → ℕ → ℕ → BlockTally → BlockTally
block_taken m0 s f b x = record {
  mbas = sought_of x.mbas (fec_blocks * f + b) (mbas_off m0 s (fec_blocks * f + b) b);
  crc = sought_of x.crc (fec_blocks * f + b) (crc_off s b);
  pad = x.pad;
}

-- the first f super frames: the first FEC block with another MBAS, the first with a wrong CRC, the first super frame whose pad is not zero
abbrev pub frames_to : ℕ → List ℕ → ℕ → BlockTally
frames_to m0 cap f = record {
  mbas = first_found (mbas_differs m0 cap) (fec_blocks * f);
  crc = first_found (crc_differs cap) (fec_blocks * f);
  pad = first_found (pad_differs cap) f;
}

-- bit j of the information, and of the parity, of the super frame with the bytes s
unfoldable pub info_in : List ℕ → ℕ → ℕ
info_in s j = bit_at s (fec_bits * (j / info_bits) + j % info_bits)

unfoldable pub parity_in : List ℕ → ℕ → ℕ
parity_in s j = bit_at s (fec_bits * (j / parity_bits) + (parity_from + j % parity_bits))

-- ---- numbers 4 to 8, from the two tallies: the smallest number, at its first place

-- where a search found a place the call is refused there, else what comes next answers
abbrev pub refused_where : ℕ → Option ℕ → Answer → Answer
refused_where k (Some p) next = refused k p
refused_where k None next = next

unfoldable pub verdict_of : WordTally → BlockTally → Answer
verdict_of w b =
    refused_where beyond_repair w.beyond
    (refused_where filler_not_zero w.filler
    (refused_where wrong_mbas b.mbas
    (refused_where wrong_crc b.crc
    (refused_where pad_not_zero b.pad
    (done w.seen)))))

-- the answer of a call whose numbers and lengths are right
abbrev pub late_answer : ℕ → ℕ → List ℕ → Answer
late_answer N m0 cap = verdict_of (words_to N cap (words N)) (frames_to m0 cap N)

abbrev pub late_leaves : ℕ → ℕ → List ℕ → List ℕ → List ℕ → List ℕ × List ℕ
late_leaves N m0 cap info par = written (late_answer N m0 cap) (info_of N (fec_in (repaired cap)), parity_of N (fec_in (repaired cap))) (info, par)
