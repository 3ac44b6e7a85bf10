-- `read::Reader::element` meets its contract. Assumes nothing.
use mathlib.Core.Path.{sym, ap, ◌∙◌}
use Rattle.hamming.specs.Code.{checks_of}
use Rattle.hamming.specs.Repair.{repair_of}
use Rattle.read_spec.specs.Read.{repaired}
use Rattle.read_spec.proofs.Pieces.{word_of, sound_word_kept}
use Rattle.read.proofs.Reader.element.Goals as goal

pub returns-then-c-eq0 : goal.returns-then-c-eq0
returns-then-c-eq0 c = let a = c.args in
    let cap = a.self.now.capture.now in
    let w = c.slot-w in
    c.word_in-word.ensures ∙ sound_word_kept cap w.result (sym c.checks-c.ensures ∙ c.if-c-eq0.true) ∙ ap (repaired cap) w.ensures

pub repair-requires : goal.repair-requires
repair-requires c = c.checks-c.ensures ∙ ap checks_of (sym c.word_in-word.ensures)

pub returns : goal.returns
returns c = let r = c.repair in
    let w = c.slot-w in
    let cap = c.args.self.now.capture.now in
    word_of cap w.result r.result (r.ensures ∙ ap repair_of c.word_in-word.ensures) ∙ ap (repaired cap) w.ensures
