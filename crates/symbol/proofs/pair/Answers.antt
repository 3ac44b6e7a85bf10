-- `symbol::pair` meets its contract: each return is a case of the rule. Assumes nothing.
use mathlib.Core.Bool.{true, false}
use lib.IntN.{pos, negsuc}
use Rattle.symbol.specs.Levels.{pair_of}
use Rattle.symbol.proofs.Amplitudes.{test_of}
use Rattle.symbol.proofs.pair.Goals as goal

pub returns-then-v-ltminus2 : goal.returns-then-v-ltminus2
unfolding pair_of
returns-then-v-ltminus2 c = rw (test_of c.args.v (negsuc 1) true c.ranges.v c.if-v-ltminus2.true)

pub returns-then-v-lt0 : goal.returns-then-v-lt0
unfolding pair_of
returns-then-v-lt0 c = rw (test_of c.args.v (negsuc 1) false c.ranges.v c.if-v-ltminus2.false, test_of c.args.v (pos 0) true c.ranges.v c.if-v-lt0.true)

pub returns-then-v-lt2 : goal.returns-then-v-lt2
unfolding pair_of
returns-then-v-lt2 c = rw (
  test_of c.args.v (negsuc 1) false c.ranges.v c.if-v-ltminus2.false,
  test_of c.args.v (pos 0) false c.ranges.v c.if-v-lt0.false,
  test_of c.args.v (pos 2) true c.ranges.v c.if-v-lt2.true,
)

pub returns-else-v-lt2 : goal.returns-else-v-lt2
unfolding pair_of
returns-else-v-lt2 c = rw (
  test_of c.args.v (negsuc 1) false c.ranges.v c.if-v-ltminus2.false,
  test_of c.args.v (pos 0) false c.ranges.v c.if-v-lt0.false,
  test_of c.args.v (pos 2) false c.ranges.v c.if-v-lt2.false,
)
