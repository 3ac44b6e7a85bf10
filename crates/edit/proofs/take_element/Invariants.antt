-- `edit::take_element` meets its contract: a bit a turn. Assumes nothing.
use Prim.Native.Nat.{◌≤◌}
use mathlib.Core.Path.{◌≡◌}
use Rattle.bits.specs.Bits.{bit_at}
use Rattle.crc.specs.Remainder.{rem_from}
use Rattle.crc.specs.Crc.{width, poly}
use Rattle.sizes.specs.Sizes.{element_bits}
use Rattle.edit.proofs.take_element.Given as goal

abbrev pub invariant-loop-i : goal.invariant-loop-i
invariant-loop-i l = (l.i ≤ element_bits) × (l.x ≡ rem_from width poly l.r (bit_at l.v) l.i)
