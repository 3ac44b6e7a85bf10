-- `test_flip::flip_in_all` meets its contract: the words are taken one after the other. Assumes nothing.
use Prim.Native.Nat.{◌≤◌}
use mathlib.Core.Path.{◌≡◌}
use lib.ListN.{length}
use Rattle.prelude.proofs.LoopLaws.{Folded}
use Rattle.test_flip.specs.Flipped.{flipped_once}
use Rattle.test_flip.proofs.flip_in_all.Given as goal

abbrev pub invariant-loop-w : goal.invariant-loop-w
invariant-loop-w l = (Folded flipped_once l.initial.capture l.w l.capture) × (length l.capture ≡ length l.initial.capture) × (l.w ≤ l.w-end)
