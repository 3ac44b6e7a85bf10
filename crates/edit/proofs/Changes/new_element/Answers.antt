-- `Changes::new_element` meets its contract. Assumes nothing.
use native.Mathlib.Omega.{arith}
use Rattle.line_order.specs.Order.{word_in}
use Rattle.edit_spec.proofs.Remaking.{block_made, tail_made, parity_made}
use Rattle.edit.proofs.Changes.new_element.Goals as goal

pub returns-then-m-gt-INFO_ELEMENTS : goal.returns-then-m-gt-INFO_ELEMENTS
returns-then-m-gt-INFO_ELEMENTS c = let a = c.args in
    parity_made a.self.now.block.number a.self.now.bits.now a.self.now.parity.now a.crc a.e (word_in a.capture.now a.w) c.field_element.result (omega (arith, c.if-m-gt-INFO_ELEMENTS.true, c.local_number-m.ensures))
    c.field_element.ensures

pub returns-then-m-lt-INFO_ELEMENTS : goal.returns-then-m-lt-INFO_ELEMENTS
returns-then-m-lt-INFO_ELEMENTS c = let o = c.word_in-old in
    let a = c.args in
    rw (← o.ensures)
    (block_made a.self.now.block.number a.self.now.bits.now a.self.now.parity.now a.crc a.e o.result c.block_element.result (omega (arith, c.if-m-lt-INFO_ELEMENTS.true, c.local_number-m.ensures)) c.block_element.ensures)

pub returns : goal.returns
returns c = let o = c.word_in-old in
    let a = c.args in
    rw (← o.ensures)
    (tail_made a.self.now.block.number a.self.now.bits.now a.self.now.parity.now a.crc a.e o.result c.tail_element.result (omega (arith, c.if-m-gt-INFO_ELEMENTS.false, c.if-m-lt-INFO_ELEMENTS.false, c.local_number-m.ensures)) c.tail_element.ensures)
