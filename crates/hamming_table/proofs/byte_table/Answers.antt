-- `hamming_table::byte_table` meets its contract: row after row. Assumes nothing.
use Prim.Native.Nat.{◌+◌, ◌*◌}
use mathlib.Core.Path.{refl}
use native.Mathlib.Omega.{arith}
use Rattle.sizes.specs.Sizes.{word_bytes}
use Rattle.hamming_table.proofs.Doubling.{begun_none, begun_to, entries_begun_all}
use Rattle.hamming_table.proofs.byte_table.Goals as goal

pub loop-k-init : goal.loop-k-init
loop-k-init c = (omega arith, begun_none refl)

pub loop-k-preserved : goal.loop-k-preserved
loop-k-preserved c = (omega arith, begun_to (256 * (c.loop-k.k + 1)) c.fill_row.ensures (omega arith))

pub returns : goal.returns
returns c = entries_begun_all (begun_to (256 * word_bytes) c.loop-k.invariant.1 (omega (arith, c.loop-k.invariant.0, c.loop-k-test.false)))
