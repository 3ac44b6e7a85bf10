-- The sizes of document 01, each named once; `sizes` of proofs/Equations.antt says how they hang together. Assumes nothing: these are definitions.
use Rattle.std.specs.Prelude.{ℕ, ◌+◌, ◌*◌, ◌/◌}

-- ---- "GMP places": the places of an envelope, the bits of one, and the bytes of two of them, which are whole

abbrev pub places : ℕ
places = 10220

abbrev pub group_bits : ℕ
group_bits = 1028

abbrev pub pair_bytes : ℕ
pair_bytes = 257

-- ---- "One FEC block, 261,086 bits"

-- client blocks, in bits, and how many an FEC block has
abbrev pub block_bits : ℕ
block_bits = 257

abbrev pub client_blocks : ℕ
client_blocks = 952

-- the four fields of an FEC block, in bits, and where each begins
abbrev pub info_bits : ℕ
info_bits = 244664

abbrev pub crc_bits : ℕ
crc_bits = 32

abbrev pub mbas_bits : ℕ
mbas_bits = 6

abbrev pub parity_bits : ℕ
parity_bits = 16384

abbrev pub mbas_from : ℕ
mbas_from = 244696

abbrev pub parity_from : ℕ
parity_from = 244702

abbrev pub fec_bits : ℕ
fec_bits = 261086

-- information and parity of one FEC block, in bytes
abbrev pub info_bytes : ℕ
info_bytes = 30583

abbrev pub parity_bytes : ℕ
parity_bytes = 2048

-- ---- "One super frame"

abbrev pub fec_blocks : ℕ
fec_blocks = 5

abbrev pub pad_from : ℕ
pad_from = 1305430

abbrev pub pad_bits : ℕ
pad_bits = 714

abbrev pub super_bits : ℕ
super_bits = 1306144

abbrev pub super_bytes : ℕ
super_bytes = 163268

-- elements: the bits of one; how many a super frame has, an FEC block, its information, and what stands behind that
abbrev pub element_bits : ℕ
element_bits = 119

abbrev pub super_elements : ℕ
super_elements = 10976

abbrev pub fec_elements : ℕ
fec_elements = 2194

abbrev pub info_elements : ℕ
info_elements = 2056

abbrev pub tail_elements : ℕ
tail_elements = 138

-- the rows of the interleaver, the words by which a row waits longer than the next, and those that the first row waits: as many more than
-- elements a capture has
abbrev pub rows : ℕ
rows = 16

abbrev pub row_wait : ℕ
row_wait = 32

abbrev pub longest_wait : ℕ
longest_wait = 480

-- its client blocks, and the bytes of its information and of its parity
abbrev pub super_blocks : ℕ
super_blocks = 4760

abbrev pub super_info_bytes : ℕ
super_info_bytes = 152915

abbrev pub super_parity_bytes : ℕ
super_parity_bytes = 10240

-- ---- "Code words": the bits of one, of which so many are check bits, and the numbers that these can be; its bytes; how many words interleave, and
-- their bytes

abbrev pub word_bits : ℕ
word_bits = 128

abbrev pub check_bits : ℕ
check_bits = 9

abbrev pub check_values : ℕ
check_values = 512

abbrev pub word_bytes : ℕ
word_bytes = 16

abbrev pub group_words : ℕ
group_words = 8

abbrev pub group_size : ℕ
group_size = 128

-- ---- "Captures": the most super frames of one; what a super frame adds to one, in bytes, and what it has besides

abbrev pub most_frames : ℕ
most_frames = 8

abbrev pub super_capture_bytes : ℕ
super_capture_bytes = 175616

abbrev pub filler_bytes : ℕ
filler_bytes = 7680

-- lengths for N super frames, in bytes; words; client blocks

abbrev pub info_length : ℕ → ℕ
info_length N = super_info_bytes * N

abbrev pub parity_length : ℕ → ℕ
parity_length N = super_parity_bytes * N

abbrev pub capture_length : ℕ → ℕ
capture_length N = super_capture_bytes * N + filler_bytes

abbrev pub words : ℕ → ℕ
words N = super_elements * N + longest_wait

abbrev pub blocks_of : ℕ → ℕ
blocks_of N = super_blocks * N

-- an edit: the bytes of a client block, and the length of the list
abbrev pub block_bytes : ℕ
block_bytes = 33

abbrev pub list_length : ℕ
list_length = 145

-- a window: the bytes of d groups, ceil(128.5·d), and of n places, 257·n/2

abbrev pub group_bytes : ℕ → ℕ
group_bytes d = (pair_bytes * d + 1) / 2

abbrev pub window_bytes : ℕ → ℕ
window_bytes n = pair_bytes * n / 2
