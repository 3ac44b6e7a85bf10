-- `go_on` meets its contract: what is filled reaches far enough back for the sum of four. Assumes nothing.
use Prim.Native.Nat.{ℕ, ◌*◌, ◌≤◌, ◌<◌}
use mathlib.Core.Path.{◌≡◌, refl}
use native.Mathlib.Omega.{arith}
use lib.ListN.{get_or}
use Rattle.bits.specs.Bits.{byte_of}
use Rattle.prelude.proofs.Lists.{filled_more, filled_at, filled_to}
use Rattle.scrambler.specs.Scrambler.{o}
use Rattle.scrambler.proofs.Strides.{next_sum, opened_begun}
use Rattle.scrambler.proofs.go_on.Goals as goal

pub loop-k-init : goal.loop-k-init
loop-k-init c = let b = c.requires.4 in (omega arith, c.requires.2, record { within = b.within; len = refl; is = b.is })

pub loop-k-preserved : goal.loop-k-preserved
loop-k-preserved c = let h = c.loop-k in
    let s = c.args.s in
    let l = c.loop-k-test.true in
    let at : (j : ℕ) → j < h.k → get_or h.out j 0 ≡ byte_of o j = λ j m. filled_at 0 h.invariant.2 m in
    let some : 1 ≤ s = c.requires.0 in
    let far : 16 * s ≤ h.k = h.invariant.0 in (
      omega arith,
      omega arith,
      filled_more h.invariant.2 (omega arith)
          (next_sum s h.k (λ j. get_or h.out j 0) c.requires.1 some far at),
    )

pub returns : goal.returns
returns c = let h = c.loop-k in
    let e = filled_to c.args.m h.invariant.2 (omega (arith, h.invariant.1, c.loop-k-test.false)) in
    (opened_begun (record { long = e.len; is = e.is }) c.requires.3, e.len)
