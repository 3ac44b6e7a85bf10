-- The measure of `power`: it halves m. Assumes nothing.
use Rattle.crc.proofs.+power.Given as goal

abbrev pub decreases-power : goal.decreases-power
decreases-power l = l.m
