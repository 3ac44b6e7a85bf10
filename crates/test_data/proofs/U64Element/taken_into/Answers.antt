-- A digest takes in a number as its eight bytes. Assumes nothing.
use Rattle.test_data.proofs.Instances.{eight_bytes}
use Rattle.test_data.proofs.U64Element.taken_into.Goals as goal

pub returns : goal.returns
returns c = rw (c.digest_from.ensures, c.to_be_bytes.ensures) (eight_bytes c.args.h c.args.self)
