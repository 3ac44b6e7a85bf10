-- `test_data::Generator::fill` meets its contract: after k turns k elements are filled and the generator has gone k steps. Assumes nothing.
use Rattle.prelude.proofs.Lists.{Filled}
use Rattle.test_data.specs.Generator.{made_by}
use Rattle.test_data.proofs.Steps.{At}
use Rattle.test_data.proofs.Generator.fill.Given as goal

abbrev pub invariant-loop-x : goal.invariant-loop-x
invariant-loop-x g l =
    At l.initial.self.state l.x-index l.self × Filled l.x-index (made_by g.E.Element.made_of l.initial.self.state) l.initial.out l.out
