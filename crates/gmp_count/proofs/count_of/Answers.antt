-- `gmp_count::count_of` meets its contract: the law `read_by`. Assumes nothing.
use Rattle.gmp_count.proofs.Whole.{read_by}
use Rattle.gmp_count.proofs.count_of.Goals as goal

pub returns : goal.returns
returns c = search read_by
