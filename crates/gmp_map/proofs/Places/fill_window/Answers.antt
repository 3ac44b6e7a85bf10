-- `gmp_map::Places::fill_window` meets its contract: two places a turn. Assumes nothing.
use Prim.Native.Nat.{◌+◌, ◌*◌}
use native.Mathlib.Omega.{arith}
use lib.ListN.{length-take, length-drop}
use Rattle.prelude.proofs.Lists.{filled_none, filled_to, filled_all}
use Rattle.sizes.specs.Sizes.{pair_bytes}
use Rattle.gmp_map.proofs.Pairs.{pairs_filled}
use Rattle.gmp_map.proofs.Places.fill_window.Goals as goal

pub loop-p-init : goal.loop-p-init
loop-p-init c = (filled_none, omega arith)

pub overflow_mul-at : goal.overflow_mul-at
overflow_mul-at c = omega arith

pub overflow_add-at : goal.overflow_add-at
overflow_add-at c = omega arith

pub slice_bounds-fill_places-count : goal.slice_bounds-fill_places-count
slice_bounds-fill_places-count c = omega arith

pub slice_bounds-fill_places-start : goal.slice_bounds-fill_places-start
slice_bounds-fill_places-start c = omega arith

pub slice_bounds-fill_places-end : goal.slice_bounds-fill_places-end
slice_bounds-fill_places-end c = omega arith

pub fill_places-requires : goal.fill_places-requires
fill_places-requires c = (omega arith, simp (length-take, length-drop) (omega arith))

pub overflow_step-p : goal.overflow_step-p
overflow_step-p c = omega arith

pub loop-p-smaller : goal.loop-p-smaller
loop-p-smaller c = omega arith

pub loop-p-preserved : goal.loop-p-preserved
loop-p-preserved c = let t = c.loop-p in
    let more = pairs_filled pair_bytes (pair_bytes * t.p + pair_bytes) t.invariant.0 (omega arith) (omega arith) c.fill_places.ensures in
    (filled_to (pair_bytes * (t.p + 1)) more (omega arith), omega arith)

pub shape_of-window : goal.shape_of-window
shape_of-window c = omega arith

pub returns : goal.returns
returns c = filled_all _ c.loop-p.invariant.0 (omega arith) (omega arith)
