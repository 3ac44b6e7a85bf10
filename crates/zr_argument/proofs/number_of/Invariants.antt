-- `zr_argument::number_of`: a byte a turn, which was read with those before it. Assumes nothing.
use Rattle.zr_argument.proofs.Digits.{Read}
use Rattle.zr_argument.proofs.number_of.Given as goal

abbrev pub invariant-loop-b : goal.invariant-loop-b
invariant-loop-b l = Read l.s l.b-index l.v
