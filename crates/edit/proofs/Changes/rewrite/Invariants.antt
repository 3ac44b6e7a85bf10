-- `Changes::rewrite` meets its contract: a word a turn. Assumes nothing.
use Prim.Native.Nat.{◌≤◌}
use Rattle.edit_spec.specs.Steps.{PassedOn}
use Rattle.edit.proofs.Changes.rewrite.Given as goal

abbrev pub invariant-loop-w : goal.invariant-loop-w
invariant-loop-w l = let s = l.self in
    PassedOn s.block.frames s.block.number s.bits.now s.parity.now l.crc l.fn.stretch.start l.w l.initial.capture l.initial.list l.listed l.capture l.list l.c
    × (l.fn.stretch.start ≤ l.w) × (l.w ≤ l.w-end)
