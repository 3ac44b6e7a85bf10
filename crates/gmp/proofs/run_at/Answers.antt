-- `gmp::run_at` meets its contract: the kind by its test, and the last place of a run of that kind. Assumes nothing.
use Rattle.gmp.specs.Steps.{run_at}
use Rattle.gmp.proofs.Asked.{kind_is}
use Rattle.gmp.proofs.run_at.Goals as goal

pub data_last-requires : goal.data_last-requires
data_last-requires c = (c.requires, kind_is _ _ c.is_data.ensures c.if-is_data.true)

pub stuff_last-requires : goal.stuff_last-requires
stuff_last-requires c = (c.requires, kind_is _ _ c.is_data.ensures c.if-is_data.false)

pub returns-then-is_data : goal.returns-then-is_data
unfolding run_at
returns-then-is_data c = rw (← c.is_data.ensures, c.if-is_data.true, c.data_last.ensures)

pub returns-else-is_data : goal.returns-else-is_data
unfolding run_at
returns-else-is_data c = rw (← c.is_data.ensures, c.if-is_data.false, c.stuff_last.ensures)
