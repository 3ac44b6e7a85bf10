-- `test_data::Generator::below` meets its contract. Assumes nothing.
use borrow.Author.Tests.{eq-eqb, ne_eqb}
use Rattle.test_data.specs.Generator.{below}
use borrow.Author.Rules.{rules}
use Rattle.test_data.proofs.Generator.below.Goals as goal

pub returns-then-m-eq0 : goal.returns-then-m-eq0
unfolding below
returns-then-m-eq0 c = rw (eq-eqb c.args.m 0 (search rules))

pub returns : goal.returns
unfolding below
returns c = rw (ne_eqb c.args.m 0 (search rules), c.output.ensures)
