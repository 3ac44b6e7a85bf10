-- `times_x` meets its contract: it computes what `shift` says. Assumes nothing.
use Rattle.bits.specs.Bits.{digit}
use Rattle.crc.specs.Remainder.{shift}
use Rattle.crc.proofs.Changes.{poly_is}
use Rattle.crc.proofs.times_x.Goals as goal

pub returns : goal.returns
unfolding shift digit
returns c = rw poly_is
