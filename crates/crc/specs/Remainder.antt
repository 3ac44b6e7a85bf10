-- The remainder of a division by a generator, over its width w and what x^w leaves, p. The CRC of document 01 ("One FEC block") is one
-- instance, in Crc.antt; that this is the remainder of a division is said in Division.antt.
-- A stretch of bits is a function f from a bit's place to the bit, with a count n: f 0 is sent first. A polynomial of degree below w is
-- the number whose binary digits are its coefficients, x^(w-1) on top; the sum of two is `bit_xor`. Assumes nothing: these are definitions.
use Rattle.std.specs.Prelude.{ℕ, zero, suc, ◌*◌, ◌%◌, ◌^◌, List, [], ◌∷◌}
use Rattle.std.specs.Int.Bits.{bit_xor}
use Rattle.bits.specs.Bits.{digit}

-- the polynomial that a page prints as the list of its powers
unfoldable pub polynomial : List ℕ → ℕ
polynomial [] = zero
polynomial (k ∷ ks) = bit_xor (2 ^ k) (polynomial ks)

module _ (w p : ℕ) where
  -- what r·x leaves: the digit that leaves on top stands for x^w
  unfoldable pub shift : ℕ → ℕ
  shift r = bit_xor (r * 2 % 2 ^ w) (digit w r 0 * p)

  -- what r·x + b·x^w leaves: one more bit
  unfoldable pub step : ℕ → ℕ → ℕ
  step r b = bit_xor (shift r) (b * p)

  -- from the remainder r, the n bits of f
  unfoldable pub rem_from : ℕ → (ℕ → ℕ) → ℕ → ℕ
  rem_from r f zero = r
  rem_from r f (suc n) = step (rem_from r f n) (f n)

  -- the remainder of f·x^w, f the polynomial of n bits
  abbrev pub rem_of : (ℕ → ℕ) → ℕ → ℕ
  rem_of f n = rem_from 0 f n

  -- what r·x^m leaves
  unfoldable pub shift_n : ℕ → ℕ → ℕ
  shift_n zero r = r
  shift_n (suc m) r = shift (shift_n m r)
