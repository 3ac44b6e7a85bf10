-- `edit::spare_set` meets its contract. Assumes nothing.
use mir.Val.{Fits}
use mir.Syntax.{w8}
use Rattle.edit_spec.proofs.Answers.{spare_test}
use borrow.Author.Rules.{rules}
use Rattle.edit.proofs.spare_set.Goals as goal

pub returns : goal.returns
returns c = let x : Fits w8 c.byte_at.result = search rules in
    spare_test c.args.bits.now c.byte_at.result c.byte_at.ensures x.fits
