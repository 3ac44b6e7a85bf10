-- `power` meets its contract: the powers below x^32 by one test, the others by squares. Assumes nothing.
use native.Mathlib.Omega.{arith}
use Rattle.crc.specs.Crc.{width, poly}
use Rattle.crc.proofs.Changes.{poly_lt}
use Rattle.crc.proofs.Powers.{power_low, power_even, power_odd}
use Rattle.crc.proofs.+power.Goals as goal

pub returns-then-m-lt32 : goal.returns-then-m-lt32
returns-then-m-lt32 t c = power_low width poly c.args.m c.if-m-lt32.true

pub returns-then-m-eq0 : goal.returns-then-m-eq0
returns-then-m-eq0 t c =
    power_even width poly (omega arith) poly_lt c.args.m c.power-half.result c.multiply-square.result c.power-half.ensures c.multiply-square.ensures
    c.if-m-eq0.true

pub returns-else-m-eq0 : goal.returns-else-m-eq0
returns-else-m-eq0 t c =
    power_odd width poly (omega arith) poly_lt c.args.m c.power-half.result c.multiply-square.result c.times_x.result c.power-half.ensures
    c.multiply-square.ensures c.times_x.ensures c.if-m-eq0.false
