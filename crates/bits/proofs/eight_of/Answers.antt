-- `bits::eight_of` meets its contract: the two bytes as one number, and one division. Assumes nothing.
use Prim.Native.Nat.{◌%◌}
use native.Mathlib.Omega.{arith}
use Rattle.bits.proofs.Packing.{two_window}
use Rattle.bits.proofs.eight_of.Goals as goal

pub returns : goal.returns
returns c = let a = c.args in
    rw (c.from.ensures, c.from-2.ensures) (two_window 8 a.a a.b (a.i % 8) (omega arith) (omega (arith, c.ranges.a.fits)) (omega (arith, c.ranges.b.fits)))
