-- `Block::refused_in` meets its contract: a range is searched. Assumes nothing.
use mathlib.Core.Bool.{true, false}
use mathlib.Core.Path.{◌≡◌}
use Rattle.std.proofs.Common.{rules}
use Rattle.std.proofs.lemmas.Iterator.{first_from_Range}
use Rattle.edit_spec.specs.Edit.{fails}
use Rattle.edit.proofs.Block.refused_in.Goals as goal

pub returns : goal.returns
returns c = let a = c.args in
    let fail = fails a.self.frames a.self.number a.capture.now in
    first_from_Range _ _ _ _ (λ i. fail i ≡ true) (λ i. fail i ≡ false) c.find.ensures.ran
    (λ x q k. search rules) (λ x q k. (search rules, search rules))
