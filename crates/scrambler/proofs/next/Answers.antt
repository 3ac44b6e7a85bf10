-- `next` meets its contract: one step of the register is one step of the sequence. Assumes nothing.
use native.Mathlib.Omega.{arith}
use Rattle.scrambler.proofs.Stepping.{next_is}
use Rattle.scrambler.proofs.next.Goals as goal

pub returns : goal.returns
returns c = record { small = omega arith; on = λ k e. next_is k c.args.s e }
