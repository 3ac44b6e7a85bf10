-- `gmp_count::Partial::more` meets its contract: the line of the part, and whether it ends there. Assumes nothing.
use Rattle.gmp_count.proofs.Lines.{nothing_counts, line_taken, part_read}
use Rattle.gmp_count.proofs.Partial.more.Goals as goal

pub returns-then-ended : goal.returns-then-ended
returns-then-ended c = nothing_counts _ _ _ c.if-ended.true

pub slice_bounds-more_of_line-end : goal.slice_bounds-more_of_line-end
slice_bounds-more_of_line-end c = line_taken _ c.line_length-end.ensures

pub returns : goal.returns
returns c = part_read _ _ c.if-ended.false c.line_length-end.ensures c.more_of_line.ensures
