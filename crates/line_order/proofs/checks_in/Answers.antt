-- `line_order::checks_in` meets its contract. Assumes nothing.
use mathlib.Core.Path.{ap, ◌∙◌}
use Rattle.hamming_table.specs.Steps.{sum_by_tables}
use Rattle.line_order.proofs.checks_in.Goals as goal

pub returns-else-w-capture : goal.returns-else-w-capture
returns-else-w-capture c = c.checks_by.ensures ∙ ap (sum_by_tables c.args.t.now) c.word_in.ensures
