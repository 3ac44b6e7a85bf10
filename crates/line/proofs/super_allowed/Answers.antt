-- `line::super_allowed` meets its contract. Assumes nothing.
use borrow.Author.Rules.{rules}
use Rattle.prelude.proofs.LoopLaws.{tests}
use Rattle.line.specs.Captures.{super_allowed}
use Rattle.line.proofs.super_allowed.Goals as goal

pub returns : goal.returns
unfolding super_allowed
returns c = let s = c.contains.ensures.cases in search (rules, tests, c.new.ensures.start, c.new.ensures.end)
