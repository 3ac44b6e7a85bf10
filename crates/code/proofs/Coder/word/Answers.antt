-- `code::Coder::word` meets its contract. Assumes nothing.
use mathlib.Core.Bool.{true}
use mathlib.Core.Path.{◌≡◌, sym, ◌∙◌}
use Rattle.line.specs.Fec.{fec_bit}
use Rattle.line.specs.Slots.{holds}
use Rattle.line.proofs.SlotLaws.{held}
use Rattle.code.proofs.Coding.{word_filler, word_held}
use Rattle.code.proofs.Coder.word.Goals.{Else-not-holds_element}
use Rattle.code.proofs.Coder.word.Goals as goal

-- the word was found to hold an element
holding : (c : Else-not-holds_element) → holds c.args.self.now.n c.args.w ≡ true
holding c = sym c.holds_element.ensures ∙ c.if-not-holds_element.false

pub returns-then-not-holds_element : goal.returns-then-not-holds_element
returns-then-not-holds_element c = let a = c.args in
    word_filler a.self.now.n (fec_bit a.self.now.m0 a.self.now.info.now a.self.now.parity.now) a.w (sym c.holds_element.ensures ∙ c.if-not-holds_element.true)

pub plain_element-plain-requires : goal.plain_element-plain-requires
plain_element-plain-requires c = rw c.element_in-e.ensures (held c.args.self.now.n c.args.w (holding (goal.at.plain_element-plain-requires c).Else-not-holds_element)).below

pub returns : goal.returns
returns c = let a = c.args in
    word_held a.self.now.n (fec_bit a.self.now.m0 a.self.now.info.now a.self.now.parity.now) a.w c.element_in-e.result a.self.now.sequence.now a.self.now.table.now
    a.self.now.tails.now
    c.plain_element-plain.result c.element.result c.encode_by.result
    (holding (goal.at.returns c).Else-not-holds_element) c.element_in-e.ensures
    a.self.now.scrambles a.self.now.checks a.self.now.closes c.plain_element-plain.ensures c.element.ensures
    c.encode_by.ensures
