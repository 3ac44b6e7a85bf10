-- `zr::captures::code_files`: a capture fits its space. Assumes nothing.
use native.Mathlib.Omega.{arith}
use lib.ListN.{length-take}
use Rattle.zr.proofs.captures.code_files.Goals as goal

pub slice_bounds-capture-end : goal.slice_bounds-capture-end
slice_bounds-capture-end g c =
    omega (arith, c.capture.ensures.fits, c.large_space-space.ensures.room, length-take c.capture.result c.large_space-space.result)
