-- `archive::writing::put_entries` meets its contract: an entry a turn. Assumes nothing.
use Prim.Native.Nat.{◌<◌}
use mathlib.Core.Path.{◌≡◌, ◌∙◌}
use mathlib.Core.List.{[], ◌∷◌}
use native.Mathlib.Omega.{arith}
use borrow.Author.Rules.{rules}
use lib.ListN.{length, length-append}
use Rattle.std.proofs.lemmas.Slice.Zip.{zip_turn, zip_end}
use Rattle.archive_spec.specs.Write.{nth}
use Rattle.archive_spec.specs.Steps.{Inside}
use Rattle.archive_spec.proofs.Placing.{entry_inside, head_grown, head_done}
use Rattle.archive.proofs.writing.put_entries.Goals.{In-Some}
use Rattle.archive.proofs.writing.put_entries.Goals as goal

-- the entry of a turn
turn : (c : In-Some)
    → (length c.loop-kind.yielded < c.args.n) × (c.in-Some.field-0-0.now ≡ nth c.args.kinds.now (length c.loop-kind.yielded))
    × (c.in-Some.field-0-1.now ≡ nth c.args.lengths.now (length c.loop-kind.yielded))
turn c =
    let t = zip_turn c.args.kinds.now c.args.lengths.now c.loop-kind.yielded c.into_iter-kind-iterator.result c.loop-kind.kind-iterator c.next.new.self c.next.result
    (search rules) (search rules) c.loop-kind.yielded_by _ c.in-Some.is c.next.ensures.steps in
    (omega (arith, t.0, c.requires.0.kinds_long), t.2 0, t.3 0)

inside : (c : In-Some) → Inside c.in-Some.field-0-0.now c.loop-kind.from c.in-Some.field-0-1.now
inside c = let t = turn c in
    rw (t.1, t.2) (entry_inside c.requires.0 c.loop-kind.invariant.0 t.0)

pub put_entry-requires : goal.put_entry-requires
put_entry-requires c = let s = (goal.at.put_entry-requires c).In-Some in
    let t = turn s in
    (inside s, omega (arith, c.loop-kind.invariant.0.long, c.loop-kind.invariant.1, t.0))

pub overflow_add-at : goal.overflow_add-at
overflow_add-at c = let t = turn (goal.at.overflow_add-at c).In-Some in
    omega (arith, c.loop-kind.invariant.1, t.0, c.requires.0.few)

pub overflow_add-from : goal.overflow_add-from
overflow_add-from c = let i = inside (goal.at.overflow_add-from c).In-Some in
    omega (arith, i.from_inside, i.len_inside)

pub loop-kind-preserved : goal.loop-kind-preserved
loop-kind-preserved c = let t = turn (goal.at.loop-kind-preserved c).In-Some in
    rw (length-append c.loop-kind.yielded (_ ∷ []), t.2)
    (head_grown c.requires.0 c.loop-kind.invariant.0 t.0 c.loop-kind.invariant.1 (c.put_entry.ensures ∙ rw (t.1, t.2)), omega (arith, c.loop-kind.invariant.1))

pub returns : goal.returns
returns c =
    let t = zip_end c.args.kinds.now c.args.lengths.now c.loop-kind.yielded c.into_iter-kind-iterator.result c.loop-kind.kind-iterator c.next.new.self c.next.result
    (search rules) (search rules) c.loop-kind.yielded_by c.in-None.is c.next.ensures.steps in
    head_done c.requires.0 c.loop-kind.invariant.0 (omega (arith, t, c.requires.0.kinds_long, c.requires.0.lengths_long))
