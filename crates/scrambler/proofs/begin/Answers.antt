-- `begin` meets its contract: before byte k the register holds the bits from 8·k on. Assumes nothing.
use Prim.Native.Nat.{ℕ}
use mathlib.Core.Path.{◌≡◌, sym, ap, ◌∙◌}
use mathlib.Core.List.{List, ◌++◌}
use lib.ListN.{length, take, drop, length-take, length-drop, length-append}
use native.Mathlib.Omega.{arith}
use Rattle.prelude.proofs.Lists.{filled_none, filled_more, filled_all}
use Rattle.scrambler.proofs.Stepping.{starts, upper_half, byte_on}
use Rattle.scrambler.proofs.begin.Goals as goal

pub loop-x-init : goal.loop-x-init
loop-x-init c = (omega arith, sym starts, filled_none)

pub loop-x-preserved : goal.loop-x-preserved
loop-x-preserved c = let h = c.loop-x in (
  c.next8-s.ensures.small,
  byte_on h.x-index h.invariant.1 c.next8-s.ensures,
  filled_more h.invariant.2 (omega arith) (upper_half h.x-index h.s h.invariant.1),
)

pub returns : goal.returns
returns c = let d = c.args.out.now in
    let m = c.args.m in
    let q : length (take m d) ≡ m = simp length-take (omega (arith, c.requires)) in
    let e = filled_all m c.loop-x.invariant.2 c.loop-x-test.false q in
    let r : length c.loop-x.x-items ≡ m = c.loop-x.invariant.2.len ∙ q in
    record {
      long = simp (length-append, length-drop, r) (omega (arith, c.requires));
      is = ap (λ (l : List ℕ). l ++ drop m d) e;
    }
