-- `archive::field::put_number` meets its contract: a byte a turn. Assumes nothing.
use Rattle.archive_spec.specs.File.{bytes_of}
use Rattle.archive_spec.proofs.Placing.{Putting}
use Rattle.archive.proofs.field.put_number.Given as goal

abbrev pub invariant-loop-j : goal.invariant-loop-j
invariant-loop-j l = Putting l.initial.to l.at (bytes_of l.k l.x) l.j l.to
