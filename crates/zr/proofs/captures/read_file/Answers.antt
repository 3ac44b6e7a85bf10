-- `zr::captures::read_file`: information and parity fit their spaces. Assumes nothing.
use native.Mathlib.Omega.{arith}
use lib.ListN.{length-take}
use Rattle.zr.proofs.captures.read_file.Goals as goal

pub slice_bounds-info-end : goal.slice_bounds-info-end
slice_bounds-info-end g c =
    omega (arith, c.information.ensures.fits, c.large_space-large.ensures.room, length-take c.information.result c.large_space-large.result)
