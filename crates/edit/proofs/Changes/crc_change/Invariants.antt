-- `Changes::crc_change` meets its contract: an element a turn, and then the zeros at once. Assumes nothing.
use Prim.Native.Nat.{ℕ, ◌+◌, ◌-◌, ◌*◌, ◌/◌, ◌≤◌}
use mathlib.Core.List.{List}
use mathlib.Core.Path.{◌≡◌}
use Rattle.prelude.specs.Lists.{from_index}
use Rattle.crc.specs.Crc.{crc_rem}
use Rattle.line_order.specs.Order.{word_in}
use Rattle.line.specs.Words.{fec_in}
use Rattle.sizes.specs.Sizes.{element_bits}
use Rattle.edit_spec.specs.Edit.{fec_of, block_from, change}
use Rattle.edit.proofs.Changes.crc_change.Given as goal

-- the first element that holds a bit of the block, and the first one behind it
abbrev pub first_of : ℕ → ℕ
first_of b = block_from b / element_bits

abbrev pub end_of : ℕ → ℕ
end_of b = (block_from b + 256) / element_bits + 1

-- the changed bits from there on
abbrev pub changes : ℕ → List ℕ → List ℕ → ℕ → ℕ
changes b bits capture = from_index (change b bits (fec_in (word_in capture) (fec_of b))) (element_bits * first_of b)

abbrev pub invariant-loop-m : goal.invariant-loop-m
invariant-loop-m l = let b = l.self.block.number in
    (first_of b ≤ l.m) × (l.m ≤ end_of b) × (l.r ≡ crc_rem (changes b l.self.bits.now l.capture) (element_bits * (l.m - first_of b)))
