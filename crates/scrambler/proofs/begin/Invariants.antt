-- `begin` meets its contract: before byte k the register holds the bits from 8·k on. Assumes nothing.
use Prim.Native.Nat.{◌*◌, ◌^◌, ◌<◌}
use mathlib.Core.Path.{◌≡◌}
use Rattle.bits.specs.Bits.{byte_of}
use Rattle.prelude.proofs.Lists.{Filled}
use Rattle.scrambler.specs.Scrambler.{o}
use Rattle.scrambler.specs.Steps.{register}
use Rattle.scrambler.proofs.begin.Given as goal

abbrev pub invariant-loop-x : goal.invariant-loop-x
invariant-loop-x l = (l.s < 2 ^ 16) × (l.s ≡ register (8 * l.x-index)) × Filled l.x-index (byte_of o) l.initial.x-items l.x-items
