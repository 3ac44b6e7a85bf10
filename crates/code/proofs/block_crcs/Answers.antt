-- `code::block_crcs` meets its contract. Assumes nothing.
use Prim.Native.Nat.{◌*◌}
use mathlib.Core.Path.{◌≡◌, ◌∙◌}
use native.Mathlib.Omega.{arith}
use lib.ListN.{length, replicate, get_or-append}
use Rattle.prelude.proofs.Lists.{filled_more, filled_at, part_long}
use Rattle.prelude.proofs.LoopLaws.{loops}
use Rattle.sizes.specs.Sizes.{fec_blocks}
use Rattle.code.proofs.block_crcs.Goals as goal

pub loop-t-preserved : goal.loop-t-preserved
loop-t-preserved c = filled_more c.loop-t.invariant (search loops) c.block_crc.ensures

pub returns : goal.returns
returns c = let h = c.loop-t in
    let e = h.invariant in
    let long : length h.crc-items ≡ fec_blocks * c.args.n = e.len ∙ part_long 0 (fec_blocks * c.args.n) (replicate 40 0) (omega (arith, c.requires.0)) in
    record { is = λ t l. get_or-append h.crc-items _ 0 t (omega (arith, long)) ∙ filled_at 0 e (omega (arith, long)) }

pub loop-t-init : goal.loop-t-init
loop-t-init c = search loops
