-- `gmp_map::Places::fill_groups` meets its contract: two groups a turn. Assumes nothing.
use Prim.Native.Nat.{◌+◌, ◌*◌, ◌/◌, ◌≤◌, min}
use lib.ListN.{length}
use Rattle.bits.specs.Bits.{byte_of}
use Rattle.prelude.proofs.Lists.{Filled}
use Rattle.sizes.specs.Sizes.{pair_bytes}
use Rattle.gmp_map.specs.Groups.{groups_bit}
use Rattle.gmp_map.proofs.Places.fill_groups.Given as goal

abbrev pub invariant-loop-p : goal.invariant-loop-p
invariant-loop-p l = Filled (min (pair_bytes * l.p) (length l.initial.groups)) (byte_of (groups_bit l.self.c l.self.f l.self.n l.window)) l.initial.groups l.groups × (l.p ≤ (l.d + 1) / 2)
