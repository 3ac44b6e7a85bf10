-- `line_order::put_tested` meets its contract: a symbol a turn. Assumes nothing.
use Prim.Native.Nat.{◌≤◌}
use mathlib.Core.Path.{◌≡◌}
use lib.ListN.{length}
use Rattle.sizes.specs.Sizes.{word_bytes}
use Rattle.prelude.proofs.LoopLaws.{Folded}
use Rattle.line_order.specs.Order.{the_line_order}
use Rattle.line_order.specs.Steps.{put_symbol_by}
use Rattle.line_order.proofs.put_tested.Given as goal

abbrev pub invariant-loop-k : goal.invariant-loop-k
invariant-loop-k l = Folded (put_symbol_by the_line_order l.w l.fn.v) l.initial.capture l.k l.capture × (length l.capture ≡ length l.initial.capture) × (l.k ≤ word_bytes)
