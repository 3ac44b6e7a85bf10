-- `read::put_bytes` meets its contract: fourteen bytes, and one more where there is room. Assumes nothing.
use Prim.Native.Nat.{ℕ, ◌≤◌}
use mathlib.Core.List.{List, ◌++◌}
use mathlib.Core.Path.{◌≡◌, refl}
use native.Mathlib.Omega.{arith}
use lib.ListN.{length, get_or, set, take, drop}
use Rattle.prelude.proofs.Lists.{Filled, filled_more, filled_all}
use Rattle.prelude.proofs.LoopLaws.{loops}
use Rattle.read_spec.proofs.Pieces.{front_copied}
use Rattle.read.proofs.put_bytes.Goals as goal

-- the twelve that are copied, and the two behind them
fourteen : (v : List ℕ) {d twelve : List ℕ} → twelve ≡ take 12 v → 12 ≤ length v → 14 ≤ length d
    → Filled 14 (λ j. get_or v j 0) d (set (set (twelve ++ drop 12 d) 12 (get_or v 12 0)) 13 (get_or v 13 0))
fourteen v e n h = filled_more (filled_more (front_copied 12 v e n (omega arith)) (omega arith) refl) (omega arith) refl

pub returns-then-out-gt14 : goal.returns-then-out-gt14
returns-then-out-gt14 c = let e = fourteen c.args.v c.copy_from_slice.ensures.after (search loops) c.requires.0 in
    filled_all (length c.args.out.now) (filled_more {v = get_or c.args.v 14 0} e (omega arith) refl) (omega arith) refl

pub returns-else-out-gt14 : goal.returns-else-out-gt14
returns-else-out-gt14 c = let e = fourteen c.args.v c.copy_from_slice.ensures.after (search loops) c.requires.0 in
    filled_all (length c.args.out.now) e (omega (arith, e.len)) refl
