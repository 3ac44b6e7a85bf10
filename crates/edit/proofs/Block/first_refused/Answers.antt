-- `Block::first_refused` meets its contract: the client block's own stretch, and then that of CRC and parity. Assumes nothing.
use Rattle.edit_spec.proofs.Listing.{found_own, found_behind}
use Rattle.edit.proofs.Block.first_refused.Goals as goal

pub returns-in-Some : goal.returns-in-Some
returns-in-Some c = let a = c.args in
    found_own a.self.frames a.self.number a.capture.now a.self.held c.own_words.ensures c.in-Some.ensures

pub returns-in-None : goal.returns-in-None
returns-in-None c = let a = c.args in
    found_behind a.self.frames a.self.number a.capture.now a.self.held c.own_words.ensures c.in-None.ensures
    (rw (c.tail_words.ensures.start, c.tail_words.ensures.end) at c.refused_in-in-None.ensures)
