-- `Checks::fail` meets its contract. Assumes nothing.
use Prim.Native.Nat.{ℕ}
use mathlib.Core.Path.{ap, ◌∙◌}
use mathlib.Core.Bool.{not}
use lib.Dec.{eqb}
use Rattle.hamming_table.proofs.Tabled.{by_checks}
use Rattle.line_order.specs.Order.{word_in}
use Rattle.line_order.proofs.OrderLaws.{word_bytes_law}
use Rattle.edit.proofs.Checks.fail.Goals as goal

pub returns : goal.returns
returns c = let a = c.args in
    let cap = a.capture.now in
    ap (λ (x : ℕ). not (eqb x 0))
    (c.checks_in.ensures
    ∙ by_checks a.self.table.now (word_in cap a.w) a.self.right (word_bytes_law cap a.w (λ k. (c.shared_slice_known-1.given k).fits)))
