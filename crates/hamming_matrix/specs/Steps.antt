-- The two tables of 512 entries that the code lends. Assumes nothing: these are definitions.
use Rattle.std.specs.Prelude.{List, ℕ, ◌^◌}
use Rattle.prelude.specs.Lists.{tabulate}
use Rattle.sizes.specs.Sizes.{check_bits}
use Rattle.hamming_matrix.specs.Columns.{position_of}
use Rattle.hamming_matrix.specs.Sums.{tail_of}

-- both as tables: the check bits by the checks, and the position by the checks
abbrev pub tail_table : List ℕ
tail_table = tabulate (2 ^ check_bits) tail_of

abbrev pub position_table : List ℕ
position_table = tabulate (2 ^ check_bits) position_of
