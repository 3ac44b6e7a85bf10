-- `read::Reader::take_block` meets its contract. Assumes nothing.
use Rattle.read_spec.specs.Steps.{block_taken}
use Rattle.read_spec.proofs.Searching.{sought_by}
use Rattle.read.proofs.Reader.take_block.Goals as goal

pub returns : goal.returns
unfolding block_taken
returns c = let x = c.args.x in
    rw (c.or.ensures, c.or-2.ensures, sought_by x.mbas _ c.then_some.ensures c.is_mbas_off.ensures, sought_by x.crc _ c.then_some-2.ensures c.is_crc_off.ensures)
