-- `read::Reader::repair` meets its contract. Assumes nothing.
use mathlib.Core.Path.{◌∙◌}
use Rattle.hamming_table.proofs.Tabled.{by_known}
use Rattle.read.proofs.Reader.repair.Goals as goal

pub returns : goal.returns
returns c = let a = c.args in
    c.repair_known.ensures ∙ by_known a.self.now.positions.now a.word a.c a.self.now.places c.requires
