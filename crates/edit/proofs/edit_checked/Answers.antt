-- `edit::edit_checked` meets its contract. Assumes nothing.
use mathlib.Core.Path.{refl, ap}
use Rattle.std.specs.Prelude.{Err}
use Rattle.edit_spec.proofs.Answers.{nine_outcome, done_outcome}
use Rattle.edit.proofs.edit_checked.Goals as goal

pub returns-in-Some : goal.returns-in-Some
returns-in-Some c = let a = c.args in
    nine_outcome a.n a.b a.bits.now a.parity.now a.capture.now a.list.now c.requires c.in-Some.ensures refl (ap Err c.at.ensures)

pub returns-in-None : goal.returns-in-None
returns-in-None c = let a = c.args in
    done_outcome a.n a.b a.bits.now a.parity.now a.capture.now a.list.now c.requires c.in-None.ensures refl c.replace.ensures
