-- `hamming::repair_at` meets its contract: the three cases. Assumes nothing.
use Prim.Native.Nat.{ℕ}
use mathlib.Core.Path.{sym, ap, ◌∙◌}
use mathlib.Core.List.{List}
use native.Mathlib.Omega.{arith}
use Rattle.prelude.proofs.LoopLaws.{tests}
use Rattle.hamming.specs.declared.Found.TheVariants.{Flipped}
use Rattle.hamming.specs.Code.{flip}
use Rattle.hamming.specs.Repair.{answer, repair_at}
use Rattle.hamming.proofs.Repairs.{at_flipped}
use Rattle.hamming.proofs.repair_at.Goals as goal

pub returns-then-c-eq0 : goal.returns-then-c-eq0
unfolding repair_at
returns-then-c-eq0 c = search tests

pub returns-then-i : goal.returns-then-i
returns-then-i c = let a = c.args in
    ap (λ (v : List ℕ). answer v (Flipped a.i)) (c.flipped-v.ensures ∙ ap (flip a.w) c.from.ensures)
    ∙ sym (at_flipped a.w a.c a.i c.if-c-eq0.false (omega arith))

pub returns : goal.returns
unfolding repair_at
returns c = search tests
