-- `read::long_from` meets its contract. Assumes nothing.
use mathlib.Core.Path.{◌∙◌}
use native.Mathlib.Omega.{arith}
use Rattle.bits.specs.Bits.{bit_at}
use Rattle.read_spec.proofs.Pieces.{long_of}
use Rattle.read.proofs.long_from.Goals as goal

pub returns : goal.returns
returns c = let a = c.args in
    let e = long_of (bit_at a.s.now) a.at c.word_from-w.result c.word_from-w.ensures in
    let h = c.from_be_bytes.ensures in h ∙ omega (arith, e) ∙ e
