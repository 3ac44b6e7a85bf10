-- Repair of a word (document 01, "Code words"): checks all zero, nothing; checks equal to a column, that bit is flipped; otherwise the word is
-- beyond repair and stays as it is. Assumes nothing: these are definitions.
use Rattle.std.specs.Prelude.{ℕ, cond, List, ltb, eqb}
use Rattle.hamming.specs.declared.Found.{Found}
use Rattle.hamming.specs.declared.Found.TheVariants.{Clean, Flipped, Beyond}
use Rattle.hamming.specs.declared.Repaired.{Repaired}
use Rattle.sizes.specs.Sizes.{word_bits}
use Rattle.hamming_matrix.specs.Columns.{position_of}
use Rattle.hamming.specs.Code.{checks_of, flip}

abbrev pub answer : List ℕ → Found → Repaired
answer w f = record { word = w; found = f }

-- the word w where its checks are c and c is the column of bit i; an i of 128 or more is none
unfoldable pub repair_at : List ℕ → ℕ → ℕ → Repaired
repair_at w c i = cond (eqb c 0) (answer w Clean) (cond (ltb i word_bits) (answer (flip w i) (Flipped i)) (answer w Beyond))

-- what repair makes of a word: `flip_repaired`, `none_kept` and `beyond_kept` of proofs/Repairs.antt
unfoldable pub repair_of : List ℕ → Repaired
repair_of w = repair_at w (checks_of w) (position_of (checks_of w))

-- document 01's numbers: 4 is a word beyond repair
abbrev pub found_number : Found → ℕ
found_number Clean = 0
found_number (Flipped i) = 0
found_number Beyond = 4
