-- `bits_copy::copy_by` meets its contract: a byte a turn. Assumes nothing.
use mathlib.Core.Path.{◌∙◌}
use native.Mathlib.Omega.{arith}
use Rattle.prelude.proofs.Lists.{filled_none, filled_more}
use Rattle.bits.proofs.Packing.{num_two_from}
use Rattle.bits_copy.proofs.copy_by.Goals as goal

pub loop-k-init : goal.loop-k-init
loop-k-init g c = filled_none

pub byte-requires : goal.byte-requires
byte-requires g c = c.requires.may _ (omega arith) (omega arith)

pub byte-requires-in-loop-k : goal.byte-requires-in-loop-k
byte-requires-in-loop-k g c = c.requires.may _ (omega arith) (omega arith)

pub loop-k-preserved : goal.loop-k-preserved
loop-k-preserved g c = let h = c.loop-k in
    let a = c.args in
    filled_more h.invariant c.loop-k-test.true (c.eight_of.ensures
    ∙ num_two_from 8 a.s.now a.i h.k _ _ (omega arith) (c.requires.gives _ _ c.byte.ensures) (c.requires.gives _ _ c.byte-in-loop-k.ensures))
