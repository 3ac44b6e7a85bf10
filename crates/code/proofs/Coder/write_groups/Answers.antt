-- `code::Coder::write_groups` meets its contract: a group of eight words a turn. Assumes nothing.
use Prim.Native.Nat.{◌+◌, ◌-◌, ◌*◌}
use native.Mathlib.Omega.{arith}
use Rattle.prelude.proofs.Lists.{filled_none, filled_block, filled_all}
use Rattle.sizes.specs.Sizes.{capture_length, group_size}
use Rattle.line.specs.Fec.{fec_bit}
use Rattle.line_order.specs.Order.{laid_by}
use Rattle.line.specs.Words.{words_of}
use Rattle.code.specs.Code.{capture_of}
use Rattle.code.proofs.Coding.{group_left}
use Rattle.code.proofs.Coder.write_groups.Goals as goal

pub loop-g-init : goal.loop-g-init
loop-g-init c = filled_none

pub loop-g-preserved : goal.loop-g-preserved
loop-g-preserved c = let a = c.args in
    let g = c.loop-g.g in
    let W = words_of a.self.now.n (fec_bit a.self.now.m0 a.self.now.info.now a.self.now.parity.now) in
    let k = group_size * g + group_size - group_size * g in
    filled_block k (group_size * (g + 1)) c.loop-g.invariant (omega arith) (omega arith)
    (group_left W g k c.group.result c.interleave-bytes.result c.copy_from_slice.new.self (omega arith)
    c.group.ensures c.interleave-bytes.ensures c.copy_from_slice.ensures.after)

pub returns : goal.returns
unfolding capture_of laid_by
returns c = filled_all (capture_length c.args.self.now.n) c.loop-g.invariant (omega arith) (omega arith)
