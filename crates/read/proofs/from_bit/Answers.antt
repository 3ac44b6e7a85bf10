-- `read::from_bit` meets its contract: a byte of zeros behind changes no bit. Assumes nothing.
use mathlib.Core.Path.{refl, sym, ◌∙◌}
use native.Mathlib.Omega.{arith}
use lib.ListN.{replicate}
use Rattle.prelude.proofs.LoopLaws.{loops}
use Rattle.read_spec.proofs.Pieces.{zero_byte_behind, front_copied, take_all}
use Rattle.read.proofs.from_bit.Goals as goal

pub returns : goal.returns
returns c = let a = c.args in
    c.word_from.ensures
    ∙ zero_byte_behind a.v _ (replicate 17 0) a.i (omega arith) (search loops) (front_copied 16 a.v (c.copy_from_slice.ensures.after ∙ sym (take_all {k = 16} a.v (search loops))) (search loops) (omega arith)) refl
