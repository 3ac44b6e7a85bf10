-- `crc` meets its contract: the bits are complemented by the opening, the remainder by the sum with ones. Assumes nothing.

use Rattle.crc.proofs.crc.Goals as goal

pub returns : goal.returns
returns c = rw (c.remainder.ensures, c.opening_for.ensures)
