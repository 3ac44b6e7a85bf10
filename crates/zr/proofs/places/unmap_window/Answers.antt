-- `zr::places::unmap_window`: the groups of a window fit their space. Assumes nothing.
use native.Mathlib.Omega.{arith}
use lib.ListN.{length-take}
use Rattle.zr.proofs.places.unmap_window.Goals as goal

pub slice_bounds-groups-end : goal.slice_bounds-groups-end
slice_bounds-groups-end g c =
    omega (arith, c.groups.ensures.fits, c.large_space-space.ensures.room, length-take c.groups.result c.large_space-space.result)
