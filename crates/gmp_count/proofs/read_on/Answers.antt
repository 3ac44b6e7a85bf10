-- `gmp_count::read_on` meets its contract: the bytes that leave the number as it is, and those behind them. Assumes nothing.
use mathlib.Core.Path.{◌∙◌}
use Rattle.gmp_count.proofs.Lines.{no_number_kept, rest_behind}
use Rattle.gmp_count.proofs.read_on.Goals as goal

pub returns-in_err-v : goal.returns-in_err-v
returns-in_err-v c = c.from_residual.ensures ∙ no_number_kept _ c.in_err-v.was

pub returns : goal.returns
returns c = let e = c.in_ok-v.was in rest_behind _ e c.zeros_in_front-front.ensures c.read_digits.ensures
