-- `test_flip::bit` meets its contract. Assumes nothing.
use Prim.Native.Nat.{◌/◌, ◌≤◌}
use mathlib.Core.Path.{refl, sym}
use native.Mathlib.Omega.{arith}
use lib.ListN.{replicate}
use lib.Seq.{set_out}
use Rattle.sizes.specs.Sizes.{word_bytes}
use Rattle.test_flip.specs.Flipped.{bit_alone}
use Rattle.test_flip.proofs.bit.Goals as goal

pub returns-then-i-lt-WORD_BITS : goal.returns-then-i-lt-WORD_BITS
unfolding bit_alone
returns-then-i-lt-WORD_BITS c = refl

pub returns-else-i-lt-WORD_BITS : goal.returns-else-i-lt-WORD_BITS
unfolding bit_alone
returns-else-i-lt-WORD_BITS c = let i = c.args.i in
    let h : word_bytes ≤ i / 8 = omega arith in
    sym (set_out (replicate word_bytes 0) (i / 8) _ h)
