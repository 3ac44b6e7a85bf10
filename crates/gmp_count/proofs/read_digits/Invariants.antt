-- `gmp_count::read_digits` meets its contract: a byte a turn, all of them digits. Assumes nothing.
use Rattle.std.specs.Prelude.{Some}
use Rattle.prelude.proofs.LoopLaws.{Folded}
use Rattle.decimal.specs.Steps.{next_at}
use Rattle.gmp_count.specs.Steps.{too_much}
use Rattle.gmp_count.proofs.read_digits.Given as goal

abbrev pub invariant-loop-k : goal.invariant-loop-k
invariant-loop-k l = Folded (next_at too_much l.s) (Some l.fn.v) l.k (Some l.v)
