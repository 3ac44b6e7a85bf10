-- `test_input::fill` meets its contract: what the generator fills. Assumes nothing.
use Rattle.prelude.proofs.Lists.{tabulate_ext}
use Rattle.test_data.proofs.Instances.{made_bytes}
use Rattle.test_input.proofs.fill.Goals as goal

pub returns : goal.returns
returns c = rw (c.fill.ensures.filled, c.start.ensures) (tabulate_ext _ _ _ (λ i h. made_bytes _ i))
