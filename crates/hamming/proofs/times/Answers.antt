-- `hamming::times` meets its contract: the bit is 1 or 0. Assumes nothing.
use mathlib.Core.Path.{◌≡◌, sym}
use native.Mathlib.Nat.{zero-mul, one-mul}
use native.Mathlib.Omega.{arith}
use Rattle.hamming.proofs.times.Goals as goal

pub returns-then-b-eq1 : goal.returns-then-b-eq1
returns-then-b-eq1 c = rw c.if-b-eq1.true (sym (one-mul c.args.c))

pub returns-else-b-eq1 : goal.returns-else-b-eq1
returns-else-b-eq1 c = let z : c.args.b ≡ 0 = omega arith in rw z (sym (zero-mul c.args.c))
