-- `demands::read` meets its contract, demand 1 of reading. Assumes nothing.
use Rattle.read_spec.proofs.Judging.{read_demand_1}
use Rattle.demands.proofs.read.Goals as goal

pub returns : goal.returns
returns c = let a = c.args in read_demand_1 a.n a.m0 a.capture.now a.info.now a.parity.now c.read.ensures
