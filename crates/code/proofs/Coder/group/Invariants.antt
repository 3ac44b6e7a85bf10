-- `code::Coder::group` meets its contract. Assumes nothing.
use Prim.Native.Nat.{◌*◌}
use Rattle.prelude.specs.Lists.{from_index}
use Rattle.prelude.proofs.Lists.{Filled}
use Rattle.line.specs.Fec.{fec_bit}
use Rattle.line.specs.Words.{words_of}
use Rattle.code.proofs.Coder.group.Given as goal

abbrev pub invariant-loop-j : goal.invariant-loop-j
invariant-loop-j l = Filled l.j (from_index (words_of l.self.n (fec_bit l.self.m0 l.self.info.now l.self.parity.now)) (8 * l.g)) l.initial.word-items l.word-items
