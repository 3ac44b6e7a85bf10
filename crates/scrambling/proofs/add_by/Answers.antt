-- `scrambling::add_by` meets its contract: a byte a turn. Assumes nothing.
use native.Mathlib.Omega.{arith}
use Rattle.prelude.proofs.Lists.{filled_none, filled_more, filled_here}
use Rattle.scrambling.proofs.Adding.{byte_summed}
use Rattle.scrambling.proofs.add_by.Goals as goal

pub loop-k-init : goal.loop-k-init
loop-k-init g c = filled_none

pub byte-requires : goal.byte-requires
byte-requires g c = c.requires.may _ (omega arith) (omega arith)

pub byte-requires-in-loop-k : goal.byte-requires-in-loop-k
byte-requires-in-loop-k g c = c.requires.may _ (omega arith) (omega arith)

pub loop-k-preserved : goal.loop-k-preserved
loop-k-preserved g c = let h = c.loop-k in
    let a = c.args in
    filled_more h.invariant (omega (arith, h.invariant.len))
    (byte_summed a.out.now h.out a.sequence.now a.at h.k _ _ _ (filled_here 0 h.invariant) (c.requires.gives _ _ c.byte.ensures)
    (c.requires.gives _ _ c.byte-in-loop-k.ensures) c.eight_of.ensures)
