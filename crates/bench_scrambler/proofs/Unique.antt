-- The public contract has one answer: two outcomes that meet it are the same. `Post` is the contract's own `ensures`, so a weaker contract would not
-- pass here. Assumes nothing.
use mathlib.Core.Path.{◌≡◌}
use Rattle.prelude.proofs.Common.{only}
use Rattle.bench_scrambler.proofs.bench_scramble.Reads as bench-scramble

-- what is left in `bytes`
pub one_bench_scramble : (κs : _) (a : _) (x y : _) (s t : _) → bench-scramble.Post κs a x s → bench-scramble.Post κs a y t → s.0.now ≡ t.0.now
one_bench_scramble κs a x y s t p q = only p q
