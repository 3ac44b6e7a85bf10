-- The steps on the way from an element to its word, as the code takes them. Assumes nothing: these are definitions.
use Rattle.std.specs.Prelude.{ℕ, ◌+◌, ◌-◌, ◌*◌, ◌/◌, ◌%◌, ◌≤◌, ◌<◌, cond, ◌≡◌, List, ltb, get_or, length}
use Rattle.bits.specs.Bits.{digit}
use Rattle.sizes.specs.Sizes.{crc_bits, mbas_bits, fec_blocks, element_bits, super_elements, info_length, parity_length, capture_length, most_frames}
use Rattle.line.specs.Fec.{block_crc}
use Rattle.line.specs.Frames.{super_of}

-- bit i of element e before it is scrambled
unfoldable pub plain_bit : (ℕ → ℕ → ℕ) → ℕ → ℕ → ℕ
plain_bit F e i = super_of F (e / super_elements) (element_bits * (e % super_elements) + i)

-- CRC and MBAS stand between the information and the parity
abbrev pub guard_bits : ℕ
guard_bits = crc_bits + mbas_bits

-- the element that holds a block's CRC and MBAS: 32 bits, six bits, then parity
unfoldable pub tail_bit : ℕ → ℕ → (ℕ → ℕ) → ℕ → ℕ
tail_bit crc mbas parity i = cond (ltb i crc_bits) (digit crc_bits crc i) (cond (ltb i guard_bits) (digit mbas_bits mbas (i - crc_bits)) (parity (i - guard_bits)))

-- the CRCs of the FEC blocks of N super frames
pub record Crcs (N : ℕ) (info crcs : List ℕ) : Type 0 where
  pub is : (t : ℕ) → t < fec_blocks * N → get_or crcs t 0 ≡ block_crc info t

-- what a granted call has shown of its numbers and buffers
pub record Granted (N : ℕ) (info par cap : List ℕ) : Type 0 where
  pub few : N ≤ most_frames
  pub information : length info ≡ info_length N
  pub parity : length par ≡ parity_length N
  pub capture : length cap ≡ capture_length N
