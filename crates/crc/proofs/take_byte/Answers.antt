-- `take_byte` meets its contract. What meets at the top of the register is a byte, so the table has it. Assumes nothing.
use Prim.Native.Nat.{◌/◌, ◌^◌, ◌<◌}
use native.Mathlib.Omega.{arith}
use lib.Bits.{bit_xor}
use Rattle.crc.proofs.Bytewise.{bit_place_lt}
use Rattle.crc.specs.Crc.{width}
use Rattle.crc.specs.Steps.{byte_step}
use Rattle.crc.proofs.take_byte.Goals.{After-from}
use Rattle.crc.proofs.take_byte.Goals as goal

place : (c : After-from) → bit_xor (c.args.r / 2 ^ 24) c.from.result < 256
place c = bit_place_lt width c.args.r c.from.result (omega arith) (omega arith) (omega arith)

pub overflow_cast-result : goal.overflow_cast-result
overflow_cast-result c = omega (arith, place c)

pub offset_bounds-t-r : goal.offset_bounds-t-r
offset_bounds-t-r c = omega (arith, place c)

pub bounds-t-r : goal.bounds-t-r
bounds-t-r c = omega (arith, place (goal.at.bounds-t-r c).After-from)

pub returns : goal.returns
unfolding byte_step
returns c = rw c.from.ensures
