-- `hamming_table::double` meets its contract: what is begun goes on by one entry at a turn. Assumes nothing.
use Prim.Native.Nat.{◌+◌, ◌≤◌}
use Rattle.hamming_table.specs.Steps.{EntriesBegun}
use Rattle.hamming_table.proofs.double.Given as goal

abbrev pub invariant-loop-r : goal.invariant-loop-r
invariant-loop-r l = (l.r ≤ l.n) × EntriesBegun (l.at + l.n + l.r) l.t
