-- `multiply` meets its contract: the digits of b are folded in. Assumes nothing.
use Prim.Native.Nat.{◌^◌}
use native.Mathlib.Omega.{arith}
use Rattle.bits.specs.Bits.{digit}
use Rattle.prelude.proofs.LoopLaws.{folded_more, loops}
use Rattle.bits.proofs.Numbers.{digit_lt}
use Rattle.prelude.proofs.Common.{bit_times}
use Rattle.crc.specs.Steps.{product_step}
use Rattle.crc.proofs.multiply.Goals as goal

pub overflow_mul-r : goal.overflow_mul-r
unfolding digit
overflow_mul-r c = let b = c.args.b in
    let j = c.loop-j.j in
    record { fits = bit_times (digit 32 b j) c.args.a (2 ^ 32) (digit_lt 32 b j) (omega arith) }

pub loop-j-preserved : goal.loop-j-preserved
unfolding product_step digit
loop-j-preserved c = (omega arith, folded_more c.loop-j.invariant.1 (rw c.times_x.ensures))

pub loop-j-init : goal.loop-j-init
loop-j-init c = search loops
