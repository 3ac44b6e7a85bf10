-- `line_order::put_inside` meets its contract: a symbol a turn. Assumes nothing.
use Prim.Native.Nat.{ℕ, ◌+◌, ◌*◌, ◌/◌}
use mathlib.Core.Path.{◌≡◌, refl, ap}
use native.Mathlib.Omega.{arith}
use lib.ListN.{length-set, get_or, set}
use Rattle.prelude.proofs.LoopLaws.{folded_none, folded_more, folded_all}
use Rattle.sizes.specs.Sizes.{group_words, word_bytes, group_size}
use Rattle.line_order.specs.Order.{symbol_place, the_line_order}
use Rattle.line_order.proofs.OrderLaws.{place_group}
use Rattle.line_order.specs.Steps.{put_symbol_by, put_by}
use Rattle.line_order.proofs.put_inside.Goals as goal

pub loop-s-init : goal.loop-s-init
loop-s-init c = (folded_none, refl, omega arith)

pub in_group-requires : goal.in_group-requires
in_group-requires c = (omega arith, omega arith)

pub overflow_add-capture : goal.overflow_add-capture
unfolding symbol_place
overflow_add-capture c = omega (arith, c.in_group.ensures)

pub bounds-capture-group : goal.bounds-capture-group
unfolding symbol_place
bounds-capture-group c = omega (arith, c.in_group.ensures)

pub loop-s-preserved : goal.loop-s-preserved
unfolding put_symbol_by the_line_order
loop-s-preserved c = let l = c.loop-s in
    let a = c.args in
    let e : group_size * (a.w / group_words) + c.in_group.result ≡ symbol_place a.w l.s = rw c.in_group.ensures (place_group a.w l.s) in (
      folded_more l.invariant.0 (ap (λ (x : ℕ). set l.capture x (get_or a.v l.s 0)) e),
      simp length-set l.invariant.1,
      omega arith,
    )

pub returns : goal.returns
unfolding put_by
returns c = folded_all word_bytes c.loop-s.invariant.0 c.loop-s.invariant.2 c.loop-s-test.false
