-- `read::Reader::write_frames` meets its contract: a super frame a turn. Assumes nothing.
use Rattle.read_spec.proofs.Places.{info_whole, parity_whole, bytes_filled}
use Prim.Native.Nat.{◌+◌, ◌-◌, ◌*◌}
use native.Mathlib.Omega.{arith}
use Rattle.prelude.proofs.Lists.{filled_none, filled_all}
use Rattle.sizes.specs.Sizes.{super_info_bytes, super_parity_bytes}
use Rattle.line.specs.Frames.{info_of, parity_of}
use borrow.Author.Rules.{rules}
use Rattle.read.proofs.Reader.write_frames.Goals as goal

pub loop-f-init : goal.loop-f-init
loop-f-init c = (filled_none, filled_none, omega arith)

pub loop-f-preserved : goal.loop-f-preserved
loop-f-preserved c = let h = c.loop-f in
    let a = c.args in
    let cap = a.self.now.capture.now in
    let i = super_info_bytes * h.f in
    let p = super_parity_bytes * h.f in
    let e = c.frame.ensures in
    let w = c.write_blocks.ensures in (
      bytes_filled (i + super_info_bytes - i) (super_info_bytes * (h.f + 1)) super_info_bytes _ h.invariant.0 (omega arith) (omega arith) (omega arith) w.0
          (λ j l. info_whole cap _ h.f j e (omega arith)),
      bytes_filled (p + super_parity_bytes - p) (super_parity_bytes * (h.f + 1)) super_parity_bytes _ h.invariant.1 (omega arith) (omega arith) (omega arith) w.1
          (λ j l. parity_whole cap _ h.f j e (omega arith)),
      omega arith,
    )

pub returns : goal.returns
unfolding info_of parity_of
returns c = let i = c.loop-f.invariant in
    (filled_all _ i.0 (omega arith) (search rules), filled_all _ i.1 (omega arith) (search rules))
