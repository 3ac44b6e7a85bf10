-- `hamming_table::fill_row` meets its contract: before turn j the row has its first 2 ^ j entries. Assumes nothing.
use Prim.Native.Nat.{ℕ, ◌+◌, ◌-◌, ◌*◌, ◌^◌}
use mathlib.Core.Path.{◌≡◌, refl, ap, ◌∙◌}
use mathlib.Core.List.{List}
use native.Mathlib.Omega.{arith}
use lib.ListN.{get_or}
use Rattle.hamming_matrix.specs.Columns.{column_of}
use Rattle.hamming_table.proofs.Doubling.{begun_to, begun_row, row_room, row_next, row_doubles}
use Rattle.hamming_table.proofs.fill_row.Goals as goal

pub loop-j-init : goal.loop-j-init
loop-j-init c = (omega arith, refl, begun_row c.args.k c.args.t.now c.requires.2 c.requires.1)

pub double-requires : goal.double-requires
unfolding column_of
double-requires c = let k = c.args.k in
    let j = c.loop-j.j in
    let h = c.loop-j-test.true in (
      omega (arith, row_room j c.loop-j.n h c.loop-j.invariant.1),
      row_doubles k j c.loop-j.n (get_or c.args.c.now (8 * k + 7 - j) 0) h c.loop-j.invariant.1 (ap (λ (s : List ℕ). get_or s (8 * k + 7 - j) 0) c.requires.0),
      c.loop-j.invariant.2,
    )

pub overflow_mul-n : goal.overflow_mul-n
overflow_mul-n c = let l = c.loop-j in
    record { fits = omega (arith, row_room l.j l.n c.loop-j-test.true l.invariant.1) }

pub loop-j-preserved : goal.loop-j-preserved
loop-j-preserved c = (omega arith, row_next c.loop-j.j c.loop-j.n c.loop-j.invariant.1, begun_to (256 * c.args.k + c.loop-j.n * 2) c.double.ensures (omega arith))

pub returns : goal.returns
returns c = let l = c.loop-j in
    let j : l.j ≡ 8 = omega (arith, l.invariant.0, c.loop-j-test.false) in
    begun_to (256 * c.args.k + 256) l.invariant.2 (ap (λ (n : ℕ). 256 * c.args.k + n) (l.invariant.1 ∙ ap (λ (i : ℕ). 2 ^ i) j))
