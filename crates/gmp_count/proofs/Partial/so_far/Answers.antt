-- `gmp_count::Partial::so_far` meets its contract: a count, one that is too large, or none. Assumes nothing.
use Rattle.gmp_count.proofs.Stepping.{is_count, no_digits, too_large}
use Rattle.gmp_count.proofs.Partial.so_far.Goals.{in_default-via-in-Some+else-count-le-MOST, in_default-via-in_default}
use Rattle.gmp_count.proofs.Partial.so_far.Goals as goal

pub returns-in-Some : goal.returns-in-Some
returns-in-Some c = is_count _ c.flatten.ensures c.in-Some.is c.if-count-le-MOST.true

pub returns-in_default : goal.returns-in_default
returns-in_default c = rw c.at.ensures (elim c.in_default.branch [
  | in_default-via-in-Some+else-count-le-MOST w ↦ too_large _ c.flatten.ensures w.in-Some.is w.if-count-le-MOST.false
  | in_default-via-in_default w ↦ no_digits _ c.flatten.ensures w.in_default.is
])
