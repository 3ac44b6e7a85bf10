-- `bits_place::front` meets its contract: two divisions by the mask's lowest place. Assumes nothing.
use Prim.Native.Nat.{ℕ, ◌-◌}
use mathlib.Core.Path.{ap₂, ◌∙◌}
use native.Mathlib.Omega.{arith}
use lib.Pow.{pow_pos}
use Rattle.bits.specs.Bits.{num}
use Rattle.bits_place.specs.Steps.{fronted}
use Rattle.bits_place.proofs.Masking.{one_shifted, front_lt, front_made}
use Rattle.bits_place.proofs.front.Goals as goal

pub overflow_mul-result : goal.overflow_mul-result
overflow_mul-result c = record { fits = omega (arith, front_lt c.args.c c.from.result 0 c.requires (omega arith) (omega arith)) }

pub nonzero_rem-result : goal.nonzero_rem-result
nonzero_rem-result c = let k = c.args.c in omega (arith, one_shifted k, pow_pos (8 - k))

pub overflow_add-result : goal.overflow_add-result
overflow_add-result c = let l = front_lt c.args.c c.from.result c.from-2.result c.requires (omega arith) (omega arith) in
    record { fits = omega (arith, l) }

pub overflow_cast-result-2 : goal.overflow_cast-result-2
overflow_cast-result-2 c = record { fits = front_lt c.args.c c.from.result c.from-2.result c.requires (omega arith) (omega arith) }

pub returns : goal.returns
returns c = front_made c.args.c c.from.result c.from-2.result c.requires (omega arith) (omega arith)
    ∙ ap₂ (λ (u v : ℕ). num 8 (fronted c.args.c u v) 0) c.from.ensures c.from-2.ensures
