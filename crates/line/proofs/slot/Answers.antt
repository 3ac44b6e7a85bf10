-- `line::slot` meets its contract. Assumes nothing.
use mathlib.Core.Path.{ap}
use Prim.Native.Nat.{ℕ, ◌+◌}
use native.Mathlib.Omega.{arith}
use Rattle.line.specs.Slots.{slot_of}
use Rattle.line.proofs.SlotLaws.{delay_most}
use Rattle.line.proofs.slot.Goals as goal

pub overflow_add-result : goal.overflow_add-result
overflow_add-result c = omega (arith, c.wait.ensures, delay_most c.args.e)

pub returns : goal.returns
unfolding slot_of
returns c = ap (λ (d : ℕ). c.args.e + d) c.wait.ensures
