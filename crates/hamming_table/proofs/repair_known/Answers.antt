-- `hamming_table::repair_known` meets its contract: what the callees say, put together. Assumes nothing.
use Prim.Native.Nat.{ℕ}
use mathlib.Core.Path.{ap, ◌∙◌}
use lib.ListN.{get_or}
use Rattle.hamming.specs.Repair.{repair_at}
use Rattle.hamming_table.proofs.repair_known.Goals as goal

pub returns : goal.returns
returns c = let a = c.args in c.repair_at.ensures ∙ ap (repair_at a.w a.c) (c.byte_at.ensures ∙ ap (λ (i : ℕ). get_or a.positions.now i 0) c.from.ensures)
