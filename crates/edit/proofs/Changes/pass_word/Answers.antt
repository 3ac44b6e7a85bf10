-- `Changes::pass_word` meets its contract. Assumes nothing.
use mathlib.Core.Path.{sym, ◌∙◌}
use Rattle.edit_spec.proofs.Passes.{word_passed_yes, word_passed_no}
use Rattle.edit.proofs.Changes.pass_word.Goals as goal

pub returns-then-is_listed : goal.returns-then-is_listed
returns-then-is_listed c = let a = c.args in
    word_passed_yes a.self.now.block.frames a.self.now.block.number a.self.now.bits.now a.self.now.parity.now a.crc a.w a.c a.capture.now a.list.now c.new_word-v.result _
    (rw (← c.requires.0) (sym c.is_listed.ensures ∙ c.if-is_listed.true)) c.new_word-v.ensures c.put_word.ensures

pub returns : goal.returns
returns c = let a = c.args in
    word_passed_no a.self.now.block.frames a.self.now.block.number a.self.now.bits.now a.self.now.parity.now a.crc a.w a.c a.capture.now a.list.now (rw (← c.requires.0) (sym c.is_listed.ensures ∙ c.if-is_listed.false))
