-- `line_order::interleave` meets its contract: the words are put one after the other. Assumes nothing.
use Prim.Native.Nat.{◌≤◌}
use mathlib.Core.Path.{◌≡◌}
use lib.ListN.{length}
use Rattle.prelude.proofs.LoopLaws.{Folded}
use Rattle.line_order.specs.Order.{the_line_order}
use Rattle.line_order.specs.Steps.{replace_by, group_word}
use Rattle.line_order.proofs.interleave.Given as goal

abbrev pub invariant-loop-w : goal.invariant-loop-w
invariant-loop-w l = Folded (replace_by the_line_order (λ x v. group_word l.fn.words x)) l.initial.out l.w l.out × (length l.out ≡ length l.initial.out) × (l.w ≤ 8)
