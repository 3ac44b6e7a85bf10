-- `read::Reader::tally_words` meets its contract. Assumes nothing.
use mathlib.Core.Path.{◌∙◌, ap}
use native.Mathlib.Omega.{arith}
use Rattle.read_spec.specs.Steps.{words_to}
use Rattle.read_spec.proofs.Searching.{words_none}
use Rattle.read.proofs.Reader.tally_words.Goals as goal

pub loop-w-init : goal.loop-w-init
loop-w-init c = (words_none _ _, omega arith)

pub returns : goal.returns
returns c = let l = c.loop-w in
    let a = c.args in
    l.invariant.0 ∙ ap (words_to a.self.now.n a.self.now.capture.now) (omega arith)
