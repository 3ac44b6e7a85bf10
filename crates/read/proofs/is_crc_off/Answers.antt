-- `read::is_crc_off` meets its contract. Assumes nothing.
use Rattle.read_spec.specs.Steps.{crc_off}
use Rattle.read.proofs.is_crc_off.Goals as goal

pub returns : goal.returns
unfolding crc_off
returns c = rw (c.long_from.ensures, c.block_crc.ensures)
