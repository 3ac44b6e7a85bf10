-- `entry` meets its contract: after j turns r is what the first j bits leave. Assumes nothing.
use Prim.Native.Nat.{◌≤◌}
use mathlib.Core.Path.{◌≡◌}
use Rattle.bits.specs.Bits.{digit}
use Rattle.crc.specs.Crc.{crc_rem}
use Rattle.crc.proofs.entry.Given as goal

abbrev pub invariant-loop-j : goal.invariant-loop-j
invariant-loop-j l = (l.j ≤ 8) × (l.r ≡ crc_rem (digit 8 l.b) l.j)
