-- `read::Reader::take_word` meets its contract. Assumes nothing.
use Prim.Native.Nat.{ℕ, ◌+◌, ◌^◌, ◌≤◌, ◌<◌}
use mathlib.Core.Bool.{Bool, cond}
use mathlib.Core.Path.{◌≡◌, sym, ap, ◌∙◌}
use native.Mathlib.Omega.{arith}
use Rattle.hamming.specs.Code.{checks_of}
use Rattle.hamming.specs.Repair.{repair_of}
use Rattle.line_order.specs.Order.{word_in}
use Rattle.read_spec.proofs.Searching.{seen_le, word_more, word_passed, beyond_is, filled_is, seen_as, plain_word, sought_by, byte_of_bool, byte_small}
use Rattle.read.proofs.Reader.take_word.Goals as goal

pub returns-then-holds_element : goal.returns-then-holds_element
returns-then-holds_element c = let r = c.args.self.now in
    word_passed r.n r.capture.now c.args.w c.args.s c.requires.1
    (plain_word r.n r.capture.now c.args.w (sym c.checks-c.ensures ∙ c.if-c-eq0.true) (sym c.holds_element.ensures ∙ c.if-holds_element.true))

pub repair-r-requires : goal.repair-r-requires
repair-r-requires c = c.checks-c.ensures ∙ ap checks_of (sym c.word_in-received.ensures)

pub overflow_add-result : goal.overflow_add-result
overflow_add-result c = let a = c.args in
    let h : a.s.seen ≤ a.w = seen_le a.self.now.n a.self.now.capture.now a.w a.s c.requires.1 in
    let q : a.s.seen + c.from.result < 2 ^ 64 = omega (arith, c.requires.0, byte_small _ c.from.ensures) in record { fits = q }

pub returns : goal.returns
returns c = let a = c.args in
    let n = a.self.now.n in
    let cap = a.self.now.capture.now in
    let r = c.repair-r.result in
    let e : r ≡ repair_of (word_in cap a.w) = c.repair-r.ensures ∙ ap repair_of c.word_in-received.ensures in
    word_more n cap a.w a.s _ _ _ c.requires.1
    (c.or.ensures ∙ sought_by a.s.beyond a.w c.then_some.ensures (beyond_is cap a.w r _ e c.number-is_beyond.ensures))
    (c.or-2.ensures ∙ sought_by a.s.filler a.w c.then_some-2.ensures (c.is_filled.ensures ∙ filled_is n cap a.w r e))
    (ap (λ (x : ℕ). a.s.seen + x) (c.from.ensures ∙ byte_of_bool _ ∙ ap (λ (b : Bool). cond b 1 0) (c.is_found.ensures ∙ seen_as cap a.w r e)))
