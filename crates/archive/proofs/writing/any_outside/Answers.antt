-- `archive::writing::any_outside` meets its contract: an entry a turn. Assumes nothing.
use Prim.Native.Nat.{ℕ, ◌<◌, ◌≤◌, min}
use mathlib.Core.Bool.{true, false}
use mathlib.Core.List.{List, [], ◌∷◌}
use mathlib.Core.Path.{◌≡◌, sym, ap, ◌∙◌}
use native.Mathlib.Omega.{arith}
use borrow.Author.Rules.{rules}
use borrow.Author.Tests.{lt-ltb, le-ltb}
use lib.Dec.{ltb}
use lib.ListN.{length, take, length-take, length-append}
use lib.Seq.{get_or-take}
use Rattle.std.proofs.lemmas.Slice.Zip.{zip_turn, zip_end}
use Rattle.prelude.specs.Loops.{first}
use Rattle.archive_spec.specs.Write.{nth, any_below, entry_outside, handed_in}
use Rattle.archive_spec.proofs.Starts.{walked_none, walked_end, outside_here, outside_more, inside_of}
use Rattle.archive.proofs.writing.any_outside.Goals.{In-Some, In-None}
use Rattle.archive.proofs.writing.any_outside.Goals as goal

-- what is known of the entries that were handed in, by where the search ends
module _ (n : ℕ) (kinds lengths : List ℕ) {k m e : ℕ} (i : k ≡ min (length kinds) (length lengths)) (j : m ≡ min n k)
    (f : e ≡ first (entry_outside n (nth kinds) (nth lengths)) m) where
  handed : m ≡ handed_in n kinds lengths
  handed = j ∙ ap (min n) i

  some_below : e < m → any_below (entry_outside n (nth kinds) (nth lengths)) (handed_in n kinds lengths) ≡ true
  some_below l = ap (any_below (entry_outside n (nth kinds) (nth lengths))) (sym handed) ∙ ap (λ (x : ℕ). ltb x m) (sym f) ∙ lt-ltb e m l

  none_outside : m ≤ e → any_below (entry_outside n (nth kinds) (nth lengths)) (handed_in n kinds lengths) ≡ false
  none_outside l = ap (any_below (entry_outside n (nth kinds) (nth lengths))) (sym handed) ∙ ap (λ (x : ℕ). ltb x m) (sym f) ∙ le-ltb e m l

-- the entry of a turn
turn : (c : In-Some)
    → (length c.loop-kind.yielded < c.min-m.result) × (c.in-Some.field-0-0.now ≡ nth c.args.kinds.now (length c.loop-kind.yielded))
    × (c.in-Some.field-0-1.now ≡ nth c.args.lengths.now (length c.loop-kind.yielded))
turn c =
    let m = c.min-m.result in
    let e = length c.loop-kind.yielded in
    let t = zip_turn (take m c.args.kinds.now) (take m c.args.lengths.now) c.loop-kind.yielded c.into_iter-kind-iterator.result c.loop-kind.kind-iterator c.next.new.self c.next.result (search rules) (search rules) c.loop-kind.yielded_by _ c.in-Some.is c.next.ensures.steps in
    let l : e < m = omega (arith, t.0, length-take m c.args.kinds.now) in
    (l, t.2 0 ∙ get_or-take m c.args.kinds.now e 0 l, t.3 0 ∙ get_or-take m c.args.lengths.now e 0 l)

pub loop-kind-init : goal.loop-kind-init
loop-kind-init c = walked_none c.entry_from-from.ensures

pub returns-then-is_outside : goal.returns-then-is_outside
returns-then-is_outside c = let a = c.args in
    let e = length c.loop-kind.yielded in
    let t = turn (goal.at.returns-then-is_outside c).In-Some in
    let f : e ≡ first (entry_outside a.n (nth a.kinds.now) (nth a.lengths.now)) c.min-m.result =
    outside_here a.kinds.now a.lengths.now c.loop-kind.invariant t.0 (c.is_outside.ensures ∙ rw (t.1, t.2)) c.if-is_outside.true in
    sym (some_below a.n a.kinds.now a.lengths.now c.min.ensures c.min-m.ensures f t.0)

pub overflow_add-from : goal.overflow_add-from
overflow_add-from c = let t = inside_of _ _ _ c.is_outside.ensures c.if-is_outside.false in
    omega (arith, t.from_inside, t.len_inside)

pub loop-kind-preserved : goal.loop-kind-preserved
loop-kind-preserved c = let a = c.args in
    let t = turn (goal.at.loop-kind-preserved c).In-Some in
    rw (length-append c.loop-kind.yielded (_ ∷ []), t.2)
    (outside_more a.kinds.now a.lengths.now c.loop-kind.invariant t.0 (c.is_outside.ensures ∙ rw (t.1, t.2)) c.if-is_outside.false)

pub returns : goal.returns
returns c =
    let a = c.args in
    let m = c.min-m.result in
    let t = zip_end (take m c.args.kinds.now) (take m c.args.lengths.now) c.loop-kind.yielded c.into_iter-kind-iterator.result c.loop-kind.kind-iterator c.next.new.self c.next.result (search rules) (search rules) c.loop-kind.yielded_by c.in-None.is c.next.ensures.steps in
    let l : m ≤ length c.loop-kind.yielded =
    omega (arith, t, length-take m a.kinds.now, length-take m a.lengths.now, c.min.ensures, c.min-m.ensures) in
    sym (none_outside a.n a.kinds.now a.lengths.now c.min.ensures c.min-m.ensures (walked_end c.loop-kind.invariant l) l)
