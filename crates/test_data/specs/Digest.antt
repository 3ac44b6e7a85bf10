-- The digest FNV-1a of 64 bits. Numbers are digested as eight bytes each, the high one first. Assumes nothing: these are definitions.
use Rattle.std.specs.Prelude.{ℕ, ◌-◌, ◌*◌, ◌/◌, ◌%◌, ◌^◌, List, get_or, length}
use Rattle.std.specs.Int.Bits.{bit_xor}
use Rattle.prelude.specs.Loops.{upto}

-- where a digest starts: 0xCBF29CE484222325
abbrev pub basis : ℕ
basis = 14695981039346656037

-- the digest h takes in the byte b: the sum without carries, times 0x100000001B3
unfoldable pub digest_with : ℕ → ℕ → ℕ
digest_with h b = bit_xor h b * 1099511628211 % 2 ^ 64

-- it takes in byte k of s
unfoldable pub taken_at : List ℕ → ℕ → ℕ → ℕ
taken_at s k h = digest_with h (get_or s k 0)

unfoldable pub digest_of : List ℕ → ℕ
digest_of s = upto (taken_at s) basis (length s)

-- it takes in byte j of the number x
unfoldable pub taken_part : ℕ → ℕ → ℕ → ℕ
taken_part x j h = digest_with h (x / 2 ^ (56 - 8 * j) % 256)

unfoldable pub taken_number : ℕ → ℕ → ℕ
taken_number h x = upto (taken_part x) h 8

-- it takes in number k of s
unfoldable pub taken_number_at : List ℕ → ℕ → ℕ → ℕ
taken_number_at s k h = taken_number h (get_or s k 0)

unfoldable pub digest_of_numbers : List ℕ → ℕ
digest_of_numbers s = upto (taken_number_at s) basis (length s)
