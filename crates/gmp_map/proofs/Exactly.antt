-- DEMAND 1 of mapping and unmapping: a call that meets its contract is refused exactly as its table says, with nothing changed, and else done.
-- Assumes nothing.
use Prim.Native.Nat.{ℕ}
use mathlib.Core.Path.{refl}
use mathlib.Core.List.{List}
use lib.ListN.{length}
use Rattle.bits.specs.Bits.{pack}
use Rattle.answer.specs.Rows.{rising, row_number}
use Rattle.answer.specs.Demand1.{Demand1}
use Rattle.answer.specs.declared.Answer.{Answer}
use Rattle.answer.proofs.Table.{demand_1}
use Rattle.gmp.specs.Places.{data_from}
use Rattle.sizes.specs.Sizes.{group_bytes, window_bytes}
use Rattle.gmp_window.specs.Answers.{map_rows, map_answer, unmap_rows, unmap_answer}
use Rattle.gmp_map.specs.Groups.{window_bit, groups_bit, Mapped, Unmapped}

pub map_demand_1 : (c f n : ℕ) (g w : List ℕ) {r : Answer} {out : List ℕ} → Mapped c f n g w r out
    → Demand1 (map_rows c f n g (length w)) (data_from c f n) (pack (window_bytes n) (window_bit c f g)) w r out
unfolding map_answer rising row_number
map_demand_1 c f n g w o = demand_1 _ _ _ _ refl o

pub unmap_demand_1 : (c f n : ℕ) (w g : List ℕ) {r : Answer} {out : List ℕ} → Unmapped c f n w g r out
    → Demand1 (unmap_rows c f n (length w) (length g)) (data_from c f n) (pack (group_bytes (data_from c f n)) (groups_bit c f n w)) g r out
unfolding unmap_answer rising row_number
unmap_demand_1 c f n w g o = demand_1 _ _ _ _ refl o
