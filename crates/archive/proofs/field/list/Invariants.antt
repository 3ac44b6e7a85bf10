-- `archive::field::list` meets its contract: an entry a turn. Assumes nothing.
use Prim.Native.Nat.{◌≤◌}
use Rattle.prelude.proofs.Lists.{Filled}
use Rattle.archive_spec.specs.Steps.{field_in}
use Rattle.archive.proofs.field.list.Given as goal

abbrev pub invariant-loop-e : goal.invariant-loop-e
invariant-loop-e l = Filled l.e (field_in l.k l.at l.first) l.initial.to l.to × (l.e ≤ l.n)
