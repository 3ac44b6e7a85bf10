-- Each public contract has one answer: two results that meet it are the same. `Post` is the contract's own `ensures`, so a weaker contract would not
-- pass here. Assumes nothing.
use mathlib.Core.Path.{◌≡◌}
use Rattle.prelude.proofs.Common.{only}
use Rattle.answer.proofs.Results.{same_numbers}
use Rattle.read_spec.proofs.judge.Reads as judge
use Rattle.read_spec.proofs.verdict.Reads as verdict

pub one_judge : (κs : _) (a : _) (x y : _) (s t : _) → judge.Post κs a x s → judge.Post κs a y t → x ≡ y
one_judge κs a x y s t p q = same_numbers (only p q)

pub one_verdict : (κs : _) (a : _) (x y : _) (s t : _) → verdict.Post κs a x s → verdict.Post κs a y t → x ≡ y
one_verdict κs a x y s t p q = same_numbers (only p q)
