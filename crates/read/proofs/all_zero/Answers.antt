-- `read::all_zero` meets its contract. Assumes nothing.
use mathlib.Core.Path.{◌∙◌}
use Rattle.prelude.proofs.LoopLaws.{loops}
use Rattle.read_spec.proofs.Searching.{zero_equal}
use Rattle.read.proofs.all_zero.Goals as goal

pub returns : goal.returns
returns c = c.eq.ensures ∙ zero_equal 16 c.args.word (search loops)
