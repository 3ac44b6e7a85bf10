-- `gmp_count::read_above` meets its contract. Assumes nothing.
use Rattle.gmp_count.proofs.Lines.{unchanged_at_0, unchanged_more, none_behind, above_stays, above_ends}
use Rattle.gmp_count.proofs.read_above.Goals as goal

pub loop-b-init : goal.loop-b-init
loop-b-init c = unchanged_at_0 _ _

pub returns-then-not-is_ascii_digit : goal.returns-then-not-is_ascii_digit
returns-then-not-is_ascii_digit c = none_behind c.loop-b.invariant c.loop-b-test.true (above_ends _ c.if-not-is_ascii_digit.ensures.value)

pub loop-b-preserved : goal.loop-b-preserved
loop-b-preserved c = unchanged_more c.loop-b.invariant c.loop-b-test.true (above_stays _ c.if-not-is_ascii_digit.ensures.value)
