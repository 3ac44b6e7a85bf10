-- `line_order::put_inside` meets its contract: a symbol a turn. Assumes nothing.
use Prim.Native.Nat.{◌≤◌}
use mathlib.Core.Path.{◌≡◌}
use lib.ListN.{length}
use Rattle.prelude.proofs.LoopLaws.{Folded}
use Rattle.sizes.specs.Sizes.{word_bytes}
use Rattle.line_order.specs.Order.{the_line_order}
use Rattle.line_order.specs.Steps.{put_symbol_by}
use Rattle.line_order.proofs.put_inside.Given as goal

abbrev pub invariant-loop-s : goal.invariant-loop-s
invariant-loop-s l = Folded (put_symbol_by the_line_order l.w l.fn.v) l.initial.capture l.s l.capture × (length l.capture ≡ length l.initial.capture) × (l.s ≤ word_bytes)
