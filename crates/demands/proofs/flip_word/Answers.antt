-- `demands::flip_word` meets its contract. Assumes nothing.
use borrow.Author.Tests.{lt-ltb, le-ltb}
use Rattle.hamming.specs.Code.{flip}
use Rattle.demand_laws.specs.Demand2.{flip_if}
use Rattle.demands.proofs.flip_word.Goals as goal

pub returns-then-p-lt-WORD_BITS : goal.returns-then-p-lt-WORD_BITS
unfolding flip_if flip
returns-then-p-lt-WORD_BITS c = rw (lt-ltb _ _ c.if-p-lt-WORD_BITS.true)

pub returns-else-p-lt-WORD_BITS : goal.returns-else-p-lt-WORD_BITS
unfolding flip_if
returns-else-p-lt-WORD_BITS c = rw (le-ltb _ _ c.if-p-lt-WORD_BITS.false)
