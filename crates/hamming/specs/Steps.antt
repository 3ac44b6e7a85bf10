-- What the code sees of a word: its checks byte by byte, and whether repair found anything. Assumes nothing: these are definitions.
use Rattle.std.specs.Prelude.{ℕ, ◌*◌, Bool, true, false}
use Rattle.bits.specs.Bits.{digit}
use Rattle.hamming_matrix.specs.Sums.{sum_to, column_taken}
use Rattle.hamming.specs.declared.Found.{Found}
use Rattle.hamming.specs.declared.Found.TheVariants.{Clean, Flipped, Beyond}

-- what byte k of a word adds to them where it is x
unfoldable pub byte_sum : ℕ → ℕ → ℕ
byte_sum k x = sum_to (column_taken (8 * k) (digit 8 x)) 8

-- whether repair found anything, which is whether the checks were not zero: a repaired check bit counts too, and so does a word beyond repair
abbrev pub found_of : Found → Bool
found_of Clean = false
found_of (Flipped i) = true
found_of Beyond = true
