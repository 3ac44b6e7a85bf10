-- The CRC of an FEC block (document 01, "One FEC block"; 002): complement the first 32 bits, take the bits as a polynomial, first bit
-- highest, multiply by x^32, take the remainder, complement it. The remainder is that of Remainder.antt by the generator below.
-- Assumes nothing: these are definitions.
use Rattle.std.specs.Prelude.{ℕ, ◌-◌, ◌^◌, cond, List, [], ◌∷◌, ltb, get_or, drop}
use Rattle.std.specs.Int.Bits.{bit_xor}
use Rattle.crc.specs.Remainder as any

-- the generator, by its powers as document 01 prints them: x^32+x^26+x^23+x^22+x^16+x^12+x^11+x^10+x^8+x^7+x^5+x^4+x^2+x+1
abbrev pub powers : List ℕ
powers = 32 ∷ 26 ∷ 23 ∷ 22 ∷ 16 ∷ 12 ∷ 11 ∷ 10 ∷ 8 ∷ 7 ∷ 5 ∷ 4 ∷ 2 ∷ 1 ∷ 0 ∷ []

-- the highest is the width of a remainder, in bits
abbrev pub width : ℕ
width = get_or powers 0 0

-- the others are what it leaves
unfoldable pub poly : ℕ
poly = any.polynomial (drop 1 powers)

-- what r·x leaves, what it leaves with one more bit, and what r·x^m leaves
abbrev pub crc_shift : ℕ → ℕ
crc_shift r = any.shift width poly r

abbrev pub crc_step : ℕ → ℕ → ℕ
crc_step r b = any.step width poly r b

abbrev pub crc_shift_n : ℕ → ℕ → ℕ
crc_shift_n m r = any.shift_n width poly m r

-- the remainder of f·x^32, f the polynomial of n bits
abbrev pub crc_rem : (ℕ → ℕ) → ℕ → ℕ
crc_rem f n = any.rem_of width poly f n

-- the bits of f, the first 32 of them complemented
unfoldable pub opened : (ℕ → ℕ) → ℕ → ℕ
opened f i = cond (ltb i width) (1 - f i) (f i)

-- all 32 digits are ones: adding this flips each of them
abbrev pub ones : ℕ
ones = 2 ^ width - 1

-- the CRC of the n bits of f: both complements are wanted. Its digit j from the top is sent as bit j
unfoldable pub crc_of : ℕ → (ℕ → ℕ) → ℕ
crc_of n f = bit_xor ones (crc_rem (opened f) n)
