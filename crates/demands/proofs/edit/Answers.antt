-- `demands::edit` meets its contract, demand 1 of editing. Assumes nothing.
use Rattle.edit_spec.proofs.Answers.{edit_demand_1}
use Rattle.demands.proofs.edit.Goals as goal

pub returns : goal.returns
returns c = let a = c.args in edit_demand_1 a.n a.block a.bits.now a.parity.now a.capture.now a.list.now c.edit.ensures
