-- `gmp_map::Places::fill_groups` meets its contract: two groups a turn. Assumes nothing.
use Prim.Native.Nat.{◌-◌, ◌*◌}
use mathlib.Core.Path.{◌≡◌}
use native.Mathlib.Omega.{arith}
use lib.ListN.{length, take, drop, length-take, length-drop}
use Rattle.prelude.proofs.Lists.{filled_none, filled_to, filled_all}
use Rattle.sizes.specs.Sizes.{pair_bytes}
use Rattle.gmp_window.proofs.Judging.{data_window}
use Rattle.gmp_map.proofs.Pairs.{pairs_filled}
use Rattle.gmp_map.proofs.Places.fill_groups.Goals as goal

pub overflow_add-p-end : goal.overflow_add-p-end
overflow_add-p-end c = omega arith

pub loop-p-init : goal.loop-p-init
loop-p-init c = (filled_to _ filled_none (omega arith), omega arith)

pub overflow_mul-at : goal.overflow_mul-at
overflow_mul-at c = omega arith

pub overflow_add-at : goal.overflow_add-at
overflow_add-at c = omega arith

pub min-end-requires : goal.min-end-requires
min-end-requires c = omega arith

pub slice_bounds-fill_two-count : goal.slice_bounds-fill_two-count
slice_bounds-fill_two-count c = omega (arith, data_window _ _ _ c.args.self.window)

pub slice_bounds-fill_two-start : goal.slice_bounds-fill_two-start
slice_bounds-fill_two-start c = omega (arith, data_window _ _ _ c.args.self.window)

pub slice_bounds-fill_two-end : goal.slice_bounds-fill_two-end
slice_bounds-fill_two-end c = omega arith

pub fill_two-requires : goal.fill_two-requires
fill_two-requires c = (c.data_in-d.ensures, omega arith, simp (length-take, length-drop) (omega arith))

pub overflow_step-p : goal.overflow_step-p
overflow_step-p c = omega arith

pub loop-p-smaller : goal.loop-p-smaller
loop-p-smaller c = omega arith

pub loop-p-preserved : goal.loop-p-preserved
loop-p-preserved c = let t = c.loop-p in
    let e = c.min-end.result in
    let w = data_window _ _ _ c.args.self.window in
    let at = pair_bytes * t.p in
    let l : length (take (e - at) (drop at t.groups)) ≡ e - at = simp (length-take, length-drop) (omega arith) in
    let before = filled_to at t.invariant.0 (omega arith) in
    (filled_to _ (pairs_filled _ e before (omega arith) (omega arith) c.fill_two.ensures) (omega arith), omega arith)

pub shape_of-groups : goal.shape_of-groups
shape_of-groups c = omega arith

pub returns : goal.returns
returns c = let w = data_window _ _ _ c.args.self.window in
    filled_all _ c.loop-p.invariant.0 (omega arith) (omega arith)
