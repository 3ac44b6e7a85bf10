-- `read::Reader::tally_words` meets its contract. Assumes nothing.
use Prim.Native.Nat.{◌+◌, ◌*◌, ◌≤◌}
use mathlib.Core.Path.{◌≡◌}
use Rattle.sizes.specs.Sizes.{longest_wait, super_elements}
use Rattle.read_spec.specs.Steps.{words_to}
use Rattle.read.proofs.Reader.tally_words.Given as goal

abbrev pub invariant-loop-w : goal.invariant-loop-w
invariant-loop-w l = (l.s ≡ words_to l.self.n l.self.capture.now l.w) × (l.w ≤ super_elements * l.self.n + longest_wait)
