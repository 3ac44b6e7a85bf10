-- `hamming_table::double` meets its contract: what is begun goes on by one entry at a turn. Assumes nothing.
use Prim.Native.Nat.{◌+◌, ◌*◌}
use native.Mathlib.Omega.{arith}
use Rattle.hamming_table.proofs.Doubling.{begun_to, begun_double}
use Rattle.hamming_table.proofs.double.Goals as goal

pub loop-r-init : goal.loop-r-init
loop-r-init c = (omega arith, begun_to (c.args.at + c.args.n + 0) c.requires.2 (omega arith))

pub loop-r-preserved : goal.loop-r-preserved
loop-r-preserved c = (
  omega arith,
  begun_double c.args.at c.args.n c.args.c c.loop-r.r c.loop-r.t c.requires.1 c.loop-r.invariant.1 c.loop-r-test.true
      c.requires.0,
)

pub returns : goal.returns
returns c = let h = c.loop-r in
    let a = c.args in
    begun_to (a.at + 2 * a.n) h.invariant.1 (omega (arith, h.invariant.0, c.loop-r-test.false))
