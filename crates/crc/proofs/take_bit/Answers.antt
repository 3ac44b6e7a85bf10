-- `take_bit` meets its contract: it computes what `step` says. Assumes nothing.
use Rattle.crc.specs.Remainder.{step}
use Rattle.crc.proofs.Changes.{poly_is}
use Rattle.crc.proofs.take_bit.Goals as goal

pub returns : goal.returns
unfolding step
returns c = rw (c.times_x.ensures, poly_is)
