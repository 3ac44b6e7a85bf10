-- `code::Coder::plain_element` meets its contract, by what the element holds. Assumes nothing.
use native.Mathlib.Omega.{arith}
use Rattle.line.specs.Fec.{fec_bit}
use Rattle.line.proofs.FecLaws.{mbas_lt}
use Rattle.code.proofs.Plain.{plain_pad, plain_info, plain_tail, plain_parity}
use Rattle.code.proofs.Coder.plain_element.Goals as goal

pub returns-then-l-ge-PAD_ELEMENT : goal.returns-then-l-ge-PAD_ELEMENT
returns-then-l-ge-PAD_ELEMENT c = let a = c.args in plain_pad (fec_bit a.self.now.m0 a.self.now.info.now a.self.now.parity.now) a.e c.if-l-ge-PAD_ELEMENT.true

pub returns-then-m-lt-INFO_ELEMENTS : goal.returns-then-m-lt-INFO_ELEMENTS
returns-then-m-lt-INFO_ELEMENTS c = let a = c.args in plain_info a.self.now.m0 a.self.now.info.now a.self.now.parity.now c.word_from.result a.e c.if-l-ge-PAD_ELEMENT.false
    c.if-m-lt-INFO_ELEMENTS.true c.word_from.ensures

pub tail_element-requires : goal.tail_element-requires
tail_element-requires c = (rw c.mbas.ensures (mbas_lt _ _), omega arith)

pub returns-then-m-eq-INFO_ELEMENTS : goal.returns-then-m-eq-INFO_ELEMENTS
returns-then-m-eq-INFO_ELEMENTS c = let a = c.args in
    plain_tail a.self.now.m0 a.self.now.info.now a.self.now.parity.now c.tail_element.result a.e c.if-l-ge-PAD_ELEMENT.false _ c.mbas.result c.if-m-eq-INFO_ELEMENTS.true
    (c.args.self.now.blocks _ (omega arith)) c.mbas.ensures c.tail_element.ensures

pub returns : goal.returns
returns c = let a = c.args in plain_parity a.self.now.m0 a.self.now.info.now a.self.now.parity.now c.word_from-2.result a.e c.if-l-ge-PAD_ELEMENT.false (omega arith)
    c.word_from-2.ensures
