-- Document 01, "One FEC block, 261,086 bits": information, CRC, MBAS, parity. Assumes nothing: these are definitions.
use Rattle.std.specs.Prelude.{ℕ, ◌+◌, ◌-◌, ◌*◌, ◌/◌, ◌%◌, Bool, cond, List, ltb}
use Rattle.bits.specs.Bits.{digit, bit_at}
use Rattle.crc.specs.Crc.{crc_of}
use Rattle.sizes.specs.Sizes.{info_bits, crc_bits, mbas_bits, parity_bits, mbas_from, parity_from}

-- ---- the number of an FEC block, and its MBAS: M-102; 002, "Multi-Block Alignment Signal"; 001 section 9.2.1

-- the numbers have seven bits
abbrev pub block_numbers : ℕ
block_numbers = 128

-- which first numbers m0 are allowed
unfoldable pub mbas_allowed : ℕ → Bool
mbas_allowed m0 = ltb m0 block_numbers

-- the number of FEC block t of the capture
unfoldable pub block_number : ℕ → ℕ → ℕ
block_number m0 t = (m0 + t) % block_numbers

-- its MBAS: half of that number, rounded down, which is its upper six bits (`mbas_upper`)
unfoldable pub mbas_of : ℕ → ℕ → ℕ
mbas_of m0 t = block_number m0 t / 2

-- ---- the block

-- bit i of a block whose four fields have the bits info, crc, mbas and parity
unfoldable pub fields : (ℕ → ℕ) → (ℕ → ℕ) → (ℕ → ℕ) → (ℕ → ℕ) → ℕ → ℕ
fields info crc mbas parity i =
    cond (ltb i info_bits) (info i)
    (cond (ltb i mbas_from) (crc (i - info_bits))
    (cond (ltb i parity_from) (mbas (i - mbas_from)) (parity (i - parity_from))))

-- bit i of the information, and of the parity, of FEC block t
unfoldable pub info_bit : List ℕ → ℕ → ℕ → ℕ
info_bit info t i = bit_at info (info_bits * t + i)

unfoldable pub parity_bit : List ℕ → ℕ → ℕ → ℕ
parity_bit par t i = bit_at par (parity_bits * t + i)

-- the CRC of FEC block t
unfoldable pub block_crc : List ℕ → ℕ → ℕ
block_crc info t = crc_of info_bits (info_bit info t)

-- bit i of FEC block t
unfoldable pub fec_bit : ℕ → List ℕ → List ℕ → ℕ → ℕ → ℕ
fec_bit m0 info par t =
    fields (info_bit info t) (digit crc_bits (block_crc info t)) (digit mbas_bits (mbas_of m0 t)) (parity_bit par t)
