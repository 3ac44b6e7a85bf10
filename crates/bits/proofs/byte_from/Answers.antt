-- `bits::byte_from` meets its contract: the two bytes that hold the eight bits. Assumes nothing.
use mathlib.Core.Path.{◌∙◌}
use native.Mathlib.Omega.{arith}
use Rattle.bits.proofs.Packing.{num_two}
use Rattle.bits.proofs.byte_from.Goals as goal

pub returns : goal.returns
returns c = let a = c.args in
    c.eight_of.ensures ∙ num_two 8 a.s.now a.i _ _ (omega arith) c.byte_at.ensures c.byte_at-2.ensures
