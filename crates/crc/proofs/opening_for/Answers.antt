-- `opening_for` meets its contract. Assumes nothing.
use Prim.Native.Nat.{ℕ, ◌-◌, ◌*◌}
use mathlib.Core.Path.{sym, ap}
use native.Mathlib.Omega.{arith}
use lib.Pow.{pow_mono, pow_pos}
use Rattle.crc.specs.Steps.{opening}
use Rattle.crc.proofs.Bytewise.{opening_many, power}
use Rattle.crc.proofs.opening_for.Goals as goal

pub overflow_sub-result-then-n-lt4 : goal.overflow_sub-result-then-n-lt4
overflow_sub-result-then-n-lt4 c = let k = 32 - 8 * c.args.n in
    omega (arith, power k (omega arith), pow_mono {i = k} {j = 32} (omega arith))

pub overflow_cast-result : goal.overflow_cast-result
overflow_cast-result c = let k = 32 - 8 * c.args.n in
    omega (arith, power k (omega arith), pow_pos k)

pub returns-then-n-lt4 : goal.returns-then-n-lt4
unfolding opening
returns-then-n-lt4 c = let k = 32 - 8 * c.args.n in
    ap (λ (x : ℕ). 4294967296 - x) (power k (omega arith))

pub returns-else-n-lt4 : goal.returns-else-n-lt4
unfolding opening
returns-else-n-lt4 c = sym (opening_many (8 * c.args.n) (omega arith))
