-- What the code's steps compute. A byte at a time, by a table of 256, for any table and any bytes: that with the right table it is the
-- remainder, and the CRC, is shown by `bytes_rem` and `bytes_crc` of proofs/Bytewise.antt. And the product of two remainders, by which
-- r·x^m is reached in few steps: `by_power` of proofs/Powers.antt says that r times what x^m leaves is what r·x^m leaves.
-- Assumes nothing: these are definitions.
use Rattle.std.specs.Prelude.{ℕ, ◌-◌, ◌*◌, ◌/◌, ◌%◌, ◌^◌, List, get_or, length}
use Rattle.std.specs.Int.Bits.{bit_xor}
use Rattle.prelude.specs.Lists.{tabulate}
use Rattle.bits.specs.Bits.{digit}
use Rattle.prelude.specs.Loops.{upto}
use Rattle.crc.specs.Remainder.{shift, rem_of}
use Rattle.crc.specs.Crc.{width, poly, ones}

-- ---- over the width w and what x^w leaves, p

-- what the eight bits of b leave
abbrev pub entry_of : ℕ → ℕ → ℕ → ℕ
entry_of w p b = rem_of w p (digit 8 b) 8

-- from the remainder r, byte k of s: the byte that leaves r on top meets it, and the table t says what they leave
unfoldable pub byte_step : ℕ → List ℕ → List ℕ → ℕ → ℕ → ℕ
byte_step w t s k r = bit_xor (r * 2 ^ 8 % 2 ^ w) (get_or t (bit_xor (r / 2 ^ (w - 8)) (get_or s k 0)) 0)

-- Horner's rule: r times x, and a where digit j of b is 1
unfoldable pub product_step : ℕ → ℕ → ℕ → ℕ → ℕ → ℕ → ℕ
product_step w p a b j r = bit_xor (shift w p r) (digit w b j * a)

-- what a·b leaves
abbrev pub product : ℕ → ℕ → ℕ → ℕ → ℕ
product w p a b = upto (product_step w p a b) 0 w

-- ---- at the CRC's

-- the right table
abbrev pub entries : List ℕ
entries = tabulate 256 (entry_of width poly)

-- from the remainder r, the bytes s
abbrev pub rem_by : List ℕ → ℕ → List ℕ → ℕ
rem_by t r s = upto (byte_step width t s) r (length s)

-- ones in the first n of 32 digits, in all where n is more: a remainder that starts from it has the first 32 of n bits complemented
unfoldable pub opening : ℕ → ℕ
opening n = 2 ^ width - 2 ^ (width - n)

-- the CRC of the bytes s
abbrev pub crc_by : List ℕ → List ℕ → ℕ
crc_by t s = bit_xor ones (rem_by t (opening (8 * length s)) s)
