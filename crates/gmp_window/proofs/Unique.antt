-- Each public contract has one answer: two runs that meet it at one entry return the same. `Post` is the contract's own `ensures`, so a weaker contract
-- would not pass here. Assumes nothing.
use mathlib.Core.Path.{◌≡◌}
use Rattle.prelude.proofs.Common.{only}
use Rattle.answer.proofs.Results.{same_numbers}
use Rattle.gmp_window.proofs.map_answer.Reads as map-answer
use Rattle.gmp_window.proofs.unmap_answer.Reads as unmap-answer

pub one_map_answer : (κs : _) (a : _) (x y : _) (s t : _) → map-answer.Post κs a x s → map-answer.Post κs a y t → x ≡ y
one_map_answer κs a x y s t p q = same_numbers (only p q)

pub one_unmap_answer : (κs : _) (a : _) (x y : _) (s t : _) → unmap-answer.Post κs a x s → unmap-answer.Post κs a y t → x ≡ y
one_unmap_answer κs a x y s t p q = same_numbers (only p q)
