-- `archive::field::put_number` meets its contract: a byte a turn. Assumes nothing.
use native.Mathlib.Omega.{arith}
use Rattle.archive_spec.proofs.Fields.{bytes_long}
use Rattle.archive_spec.proofs.Placing.{putting_none, putting_more, putting_all, byte_in}
use Rattle.archive.proofs.field.put_number.Goals as goal

pub loop-j-init : goal.loop-j-init
loop-j-init c = putting_none

pub bounds-to-at : goal.bounds-to-at
bounds-to-at c = omega (arith, c.loop-j.invariant)

pub loop-j-preserved : goal.loop-j-preserved
loop-j-preserved c = let a = c.args in
    let l = bytes_long a.k a.x in
    putting_more c.loop-j.invariant (omega arith) (omega arith) (byte_in a.k a.x c.loop-j.j (omega arith) (omega arith))

pub returns : goal.returns
returns c = let a = c.args in
    let l = bytes_long a.k a.x in
    putting_all c.loop-j.invariant (omega arith)
