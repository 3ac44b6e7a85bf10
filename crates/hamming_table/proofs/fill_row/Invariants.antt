-- `hamming_table::fill_row` meets its contract: before turn j the row has its first 2 ^ j entries. Assumes nothing.
use Prim.Native.Nat.{◌+◌, ◌*◌, ◌^◌, ◌≤◌}
use mathlib.Core.Path.{◌≡◌}
use Rattle.hamming_table.specs.Steps.{EntriesBegun}
use Rattle.hamming_table.proofs.fill_row.Given as goal

abbrev pub invariant-loop-j : goal.invariant-loop-j
invariant-loop-j l = (l.j ≤ 8) × (l.n ≡ 2 ^ l.j) × EntriesBegun (256 * l.k + l.n) l.t
