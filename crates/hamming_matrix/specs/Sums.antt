-- Sums of columns of H without carries, and the nine check bits that add a given sum: 001 section 10.5. Assumes nothing: these are definitions.
use Rattle.std.specs.Prelude.{ℕ, zero, suc, ◌+◌, ◌*◌, ◌^◌, List}
use Rattle.std.specs.Int.Bits.{bit_xor}
use Rattle.prelude.specs.Lists.{tabulate}
use Rattle.bits.specs.Bits.{digit}
use Rattle.sizes.specs.Sizes.{element_bits, check_bits}
use Rattle.hamming_matrix.specs.Columns.{column_of, place_in}

-- f 0 + f 1 + .. + f (n - 1), digit by digit and without carries
unfoldable pub sum_to : (ℕ → ℕ) → ℕ → ℕ
sum_to f zero = zero
sum_to f (suc n) = bit_xor (sum_to f n) (f n)

-- the columns from column a on, each taken where the bit f is 1
unfoldable pub column_taken : ℕ → (ℕ → ℕ) → ℕ → ℕ
column_taken a f i = f i * column_of (a + i)

-- what nine check bits p add to the checks, bit 119 on top
unfoldable pub tail_sum : ℕ → ℕ
tail_sum p = sum_to (column_taken element_bits (digit check_bits p)) check_bits

unfoldable pub tail_sums : List ℕ
tail_sums = tabulate (2 ^ check_bits) tail_sum

-- the first nine check bits that add c to the checks; no other nine do: `independent` of proofs/Matrix.antt, and of words `coded_only` of
-- hamming.proofs.Words
unfoldable pub tail_of : ℕ → ℕ
tail_of c = place_in tail_sums c
