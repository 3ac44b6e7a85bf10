-- `hamming_table::byte_table` meets its contract: row after row. Assumes nothing.
use Prim.Native.Nat.{◌*◌, ◌≤◌}
use Rattle.sizes.specs.Sizes.{word_bytes}
use Rattle.hamming_table.specs.Steps.{EntriesBegun}
use Rattle.hamming_table.proofs.byte_table.Given as goal

abbrev pub invariant-loop-k : goal.invariant-loop-k
invariant-loop-k l = (l.k ≤ word_bytes) × EntriesBegun (256 * l.k) l.t
