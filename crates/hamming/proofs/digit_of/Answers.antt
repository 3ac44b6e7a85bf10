-- `hamming::digit_of` meets its contract: a shift is a division. Assumes nothing.
use Rattle.bits.specs.Bits.{digit}
use borrow.Author.Rules.{rules}
use Rattle.hamming.proofs.digit_of.Goals as goal

pub returns : goal.returns
unfolding digit
returns c = search rules
