-- `shifted` meets its contract: r times what x^m leaves. Assumes nothing.
use mathlib.Core.Path.{ap, ◌∙◌}
use Prim.Native.Nat.{ℕ}
use native.Mathlib.Omega.{arith}
use Rattle.crc.specs.Crc.{width, poly}
use Rattle.crc.specs.Steps.{product}
use Rattle.crc.proofs.Powers.{by_power}
use Rattle.crc.proofs.shifted.Goals as goal

pub returns : goal.returns
returns c = let a = c.args in
    c.multiply.ensures ∙ ap (λ (x : ℕ). product width poly x a.r) c.power.ensures ∙ by_power width poly a.m a.r (omega arith)
