-- `gmp_map::Places::fill_window` meets its contract: two places a turn. Assumes nothing.
use Prim.Native.Nat.{◌*◌, ◌/◌, ◌≤◌}
use Rattle.bits.specs.Bits.{byte_of}
use Rattle.prelude.proofs.Lists.{Filled}
use Rattle.sizes.specs.Sizes.{pair_bytes}
use Rattle.gmp_map.specs.Groups.{window_bit}
use Rattle.gmp_map.proofs.Places.fill_window.Given as goal

abbrev pub invariant-loop-p : goal.invariant-loop-p
invariant-loop-p l = Filled (pair_bytes * l.p) (byte_of (window_bit l.self.c l.self.f l.groups)) l.initial.window l.window × (l.p ≤ l.self.n / 2)
