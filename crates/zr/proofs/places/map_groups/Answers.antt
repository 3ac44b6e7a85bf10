-- `zr::places::map_groups`: a window fits its space. Assumes nothing.
use native.Mathlib.Omega.{arith}
use lib.ListN.{length-take}
use Rattle.zr.proofs.places.map_groups.Goals as goal

pub slice_bounds-window-end : goal.slice_bounds-window-end
slice_bounds-window-end g c =
    omega (arith, c.window.ensures.fits, c.large_space-space.ensures.room, length-take c.window.result c.large_space-space.result)
