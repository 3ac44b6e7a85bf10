-- The starred cases of document 01's "Both sides of each edge", as one table computed from the definitions. Assumes nothing.
use mathlib.Core.Path.{◌≡◌}
use mathlib.Core.List.{◌∷◌, ◌++◌}
use lib.ListN.{replicate}
use Rattle.sizes.specs.Sizes.{word_bytes}
use Rattle.bits.specs.Bits.{pack}
use Rattle.gmp.specs.Places.{kind_at, is_data}
use Rattle.hamming.specs.Code.{coded}
use Rattle.hamming.proofs.Words.{coded_zero}
use Rattle.scrambler.specs.Scrambler.{o}
use Rattle.scrambler.proofs.Rule.{o_24}
use Rattle.line.specs.Slots.{delay, slot_of}
use Rattle.line_order.specs.Order.{symbol_place}

-- stuff is 0 and data 1
pub starred :
    (kind_at 0 1 ∷ kind_at 10220 10220 ∷ kind_at 10216 1 ∷ kind_at 10216 2 ∷ kind_at 10216 2556 ∷ kind_at 10217 3407 ∷ kind_at 10217 3408
    ∷ slot_of 0 ∷ slot_of 15 ∷ slot_of 16 ∷ slot_of 10976 ∷ symbol_place 9 2 ∷ (pack 3 o ++ coded (λ i. 0)))
    ≡ (0 ∷ 1 ∷ 0 ∷ 1 ∷ 0 ∷ 0 ∷ 1
    ∷ 480 ∷ 15 ∷ 496 ∷ 11456 ∷ 145 ∷ 0xFF ∷ 0xFF ∷ 0x4E ∷ replicate word_bytes 0)
unfolding is_data slot_of delay symbol_place
starred = rw (o_24, coded_zero)
