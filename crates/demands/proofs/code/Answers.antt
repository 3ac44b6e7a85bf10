-- `demands::code` meets its contract, demand 1 of coding. Assumes nothing.
use Rattle.code.proofs.Judging.{code_demand_1}
use Rattle.demands.proofs.code.Goals as goal

pub returns : goal.returns
returns c = let a = c.args in code_demand_1 a.n a.m0 a.info.now a.parity.now a.capture.now c.code.ensures
