-- `next8` meets its contract: eight steps, one after the other. Assumes nothing.
use Rattle.scrambler.proofs.Stepping.{steps_join}
use Rattle.scrambler.proofs.next8.Goals as goal

pub returns : goal.returns
returns c = let two = steps_join c.next.ensures c.next-2.ensures in
    let four = steps_join two (steps_join c.next-3.ensures c.next-4.ensures) in
    let six = steps_join four (steps_join c.next-5.ensures c.next-6.ensures) in
    steps_join six (steps_join c.next-7.ensures c.next-8.ensures)
