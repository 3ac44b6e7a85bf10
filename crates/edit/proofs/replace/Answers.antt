-- `edit::replace` meets its contract: the pass goes over both stretches. Assumes nothing.
use native.Mathlib.Omega.{arith}
use Rattle.edit_spec.proofs.Listing.{stretch_within}
use Rattle.edit_spec.proofs.Passes.{passing_own, passing_between, passing_behind}
use Rattle.edit.proofs.replace.Goals.{After-rewrite-own, After-own_words}
use Rattle.edit.proofs.replace.Goals as goal

pub rewrite-own-requires : goal.rewrite-own-requires
rewrite-own-requires c = let a = c.args in
    let b = a.block in
    let o = c.own_words.ensures in (
      o.rises,
      omega (arith, o.within, stretch_within b.frames b.number b.held),
      record {
        cap₀ = a.capture.now;
        list₀ = a.list.now;
        list_long = c.requires.list_long;
        change = c.crc_change-crc.ensures;
        passing = passing_own b.frames b.number a.bits.now a.parity.now a.capture.now a.list.now o c.requires.capture_long;
      },
    )

pub rewrite-requires : goal.rewrite-requires
rewrite-requires c = let a = c.args in
    let b = a.block in
    let o = c.own_words.ensures in
    let t = c.tail_words.ensures in (
      omega (arith, t.start, t.end),
      omega (arith, t.end, stretch_within b.frames b.number b.held),
      record {
        cap₀ = a.capture.now;
        list₀ = a.list.now;
        list_long = c.requires.list_long;
        change = c.crc_change-crc.ensures;
        passing = rw t.start (passing_between b.frames b.number a.bits.now a.parity.now a.capture.now a.list.now o
            (c.rewrite-own.ensures.on a.capture.now a.list.now c.requires.list_long c.crc_change-crc.ensures
            (passing_own b.frames b.number a.bits.now a.parity.now a.capture.now a.list.now o c.requires.capture_long)));
      },
    )

pub returns : goal.returns
returns c = let a = c.args in
    let b = a.block in
    let o = c.own_words.ensures in
    let t = c.tail_words.ensures in
    passing_behind b.frames b.number a.bits.now a.parity.now a.capture.now a.list.now b.held
    (rw t.end at (c.rewrite.ensures.on a.capture.now a.list.now c.requires.list_long c.crc_change-crc.ensures
    (rw t.start (passing_between b.frames b.number a.bits.now a.parity.now a.capture.now a.list.now o
    (c.rewrite-own.ensures.on a.capture.now a.list.now c.requires.list_long c.crc_change-crc.ensures
    (passing_own b.frames b.number a.bits.now a.parity.now a.capture.now a.list.now o c.requires.capture_long))))))
