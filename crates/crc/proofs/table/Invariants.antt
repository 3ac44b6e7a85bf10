-- `table` meets its contract: entry b is what the byte b leaves. Assumes nothing.
use Rattle.prelude.proofs.Lists.{Filled}
use Rattle.crc.specs.Crc.{width, poly}
use Rattle.crc.specs.Steps.{entry_of}
use Rattle.crc.proofs.table.Given as goal

abbrev pub invariant-loop-b : goal.invariant-loop-b
invariant-loop-b l = Filled l.b (entry_of width poly) l.initial.x-items l.x-items
