-- `demands::flip_bits` meets its contract: the words are taken one after the other. Assumes nothing.
use Prim.Native.Nat.{◌≤◌}
use mathlib.Core.Path.{◌≡◌}
use lib.ListN.{length}
use Rattle.prelude.proofs.LoopLaws.{Folded}
use Rattle.line_order.specs.Order.{the_line_order}
use Rattle.demands.specs.Steps.{flipped_by}
use Rattle.line_order.specs.Steps.{replace_by}
use Rattle.demands.proofs.flip_bits.Given as goal

abbrev pub invariant-loop-w : goal.invariant-loop-w
invariant-loop-w l = Folded (replace_by the_line_order (flipped_by l.flips)) l.initial.capture l.w l.capture × (length l.capture ≡ length l.initial.capture) × (l.w ≤ l.w-end)
