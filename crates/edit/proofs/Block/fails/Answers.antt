-- `Block::fails` meets its contract. Assumes nothing.
use mathlib.Core.Path.{sym, ◌∙◌}
use Rattle.edit_spec.proofs.Listing.{fails_unlisted, fails_listed}
use Rattle.edit.proofs.Block.fails.Goals as goal

pub returns-then-is_listed : goal.returns-then-is_listed
returns-then-is_listed c = let a = c.args in
    c.fail.ensures ∙ fails_listed a.self.frames a.self.number a.capture.now a.w (sym c.is_listed.ensures ∙ c.if-is_listed.true)

pub returns-else-is_listed : goal.returns-else-is_listed
returns-else-is_listed c = let a = c.args in
    c.if-is_listed.false ∙ fails_unlisted a.self.frames a.self.number a.capture.now a.w (sym c.is_listed.ensures ∙ c.if-is_listed.false)
