-- `code::Coder::write_groups` meets its contract: a group of eight words a turn. Assumes nothing.
use Prim.Native.Nat.{◌*◌}
use Rattle.prelude.proofs.Lists.{Filled}
use Rattle.sizes.specs.Sizes.{group_size}
use Rattle.line.specs.Fec.{fec_bit}
use Rattle.line_order.specs.Order.{byte_by, the_line_order}
use Rattle.line.specs.Words.{words_of}
use Rattle.code.proofs.Coder.write_groups.Given as goal

abbrev pub invariant-loop-g : goal.invariant-loop-g
invariant-loop-g l = Filled (group_size * l.g) (byte_by the_line_order (words_of l.self.n (fec_bit l.self.m0 l.self.info.now l.self.parity.now))) l.initial.capture l.capture
