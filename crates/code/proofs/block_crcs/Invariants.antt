-- `code::block_crcs` meets its contract. Assumes nothing.
use Rattle.prelude.proofs.Lists.{Filled}
use Rattle.line.specs.Fec.{block_crc}
use Rattle.code.proofs.block_crcs.Given as goal

abbrev pub invariant-loop-t : goal.invariant-loop-t
invariant-loop-t l = Filled l.t (block_crc l.info) l.initial.crc-items l.crc-items
