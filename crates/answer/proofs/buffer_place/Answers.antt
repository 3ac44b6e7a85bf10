-- `answer::buffer_place` meets its contract. Assumes nothing.
use native.Mathlib.Omega.{arith}
use Rattle.answer.specs.Rows.{buffer_place}
use Rattle.answer.proofs.buffer_place.Goals as goal

pub returns : goal.returns
unfolding buffer_place
returns c = omega arith
