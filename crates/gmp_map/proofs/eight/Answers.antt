-- `gmp_map::eight` meets its contract: the bits, or zeros. Assumes nothing.
use Rattle.gmp_map.proofs.Pairs.{eight_on, eight_off}
use Rattle.gmp_map.proofs.eight.Goals as goal

pub returns-in-Some : goal.returns-in-Some
returns-in-Some c = eight_on _ _ c.in-Some.is c.byte_from.ensures

pub returns-in-None : goal.returns-in-None
returns-in-None c = eight_off _ _ c.in-None.is
