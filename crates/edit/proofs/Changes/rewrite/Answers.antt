-- `Changes::rewrite` meets its contract: a word a turn. Assumes nothing.
use mathlib.Core.Path.{◌≡◌, refl}
use native.Mathlib.Omega.{arith}
use Rattle.edit_spec.proofs.Passes.{passing_long, passing_entries, passing_few, passing_word}
use Rattle.edit.proofs.Changes.rewrite.Goals as goal

pub loop-w-init : goal.loop-w-init
loop-w-init c = (record { on = λ cap₀ list₀ e q p. p }, omega arith, c.requires.0)

pub pass_word-c-requires : goal.pass_word-c-requires
pass_word-c-requires c = let s = c.args.self.now in
    let b = s.block in
    let r = c.requires.2 in
    let p = c.loop-w.invariant.0.on r.cap₀ r.list₀ r.list_long r.change r.passing in (
      refl,
      omega (arith, c.loop-w-test.true, c.requires.1),
      passing_long b.frames b.number s.bits.now s.parity.now r.cap₀ r.list₀ p,
      omega (
        arith,
        passing_few b.frames b.number s.bits.now s.parity.now r.cap₀ r.list₀ p,
        passing_entries b.frames b.number s.bits.now s.parity.now r.cap₀ r.list₀ p r.list_long,
      ),
    )

pub loop-w-preserved : goal.loop-w-preserved
loop-w-preserved c = let s = c.args.self.now in
    let b = s.block in (
      record {
        on = λ cap₀ list₀ e q p.
            passing_word b.frames b.number s.bits.now s.parity.now cap₀ list₀ (c.loop-w.invariant.0.on cap₀ list₀ e q p) c.pass_word-c.ensures
            (omega (arith, c.loop-w-test.true, c.requires.1)) e q;
      },
      omega (arith, c.loop-w.invariant.1),
      omega (arith, c.loop-w-test.true),
    )

pub returns : goal.returns
returns c = let h = c.loop-w in
    let e : h.w ≡ c.args.stretch.end = omega (arith, h.invariant.2, c.loop-w-test.false) in
    rw (← e) h.invariant.0
