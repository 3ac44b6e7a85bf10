-- What it means that `rem_of` is the remainder of a division (document 01, "remainder by x^32+x^26+..+1"): products without carries,
-- the generator and the quotient. The law is `division` of proofs/Divide.antt. Assumes nothing: these are definitions.
use Rattle.std.specs.Prelude.{ℕ, zero, suc, ◌+◌, ◌*◌, ◌%◌, ◌^◌}
use Rattle.std.specs.Int.Bits.{bit_xor}
use Rattle.bits.specs.Bits.{digit}
use Rattle.crc.specs.Remainder.{rem_of}

-- the polynomial whose n coefficients are q 0, .., q (n - 1), the first of the highest power, times the polynomial g: Horner's rule, no carries
unfoldable pub times : (ℕ → ℕ) → ℕ → ℕ → ℕ
times q zero g = zero
times q (suc n) g = bit_xor (times q n g * 2) (q n * g)

module _ (w p : ℕ) where
  -- the generator: x^w and what it leaves
  abbrev pub generator : ℕ
  generator = 2 ^ w + p

  -- the quotient's coefficients: 1 where, bit n taken in, x^w stands on top and the generator is taken away
  unfoldable pub quotient : (ℕ → ℕ) → ℕ → ℕ
  quotient f n = (digit w (rem_of w p f n) 0 + f n) % 2
