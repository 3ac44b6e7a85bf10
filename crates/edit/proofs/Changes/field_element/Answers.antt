-- `Changes::field_element` meets its contract. Assumes nothing.
use native.Mathlib.Omega.{arith}
use Rattle.edit_spec.proofs.Listing.{local_lt}
use Rattle.edit_spec.proofs.Remaking.{field_scrambled}
use Rattle.edit.proofs.Changes.field_element.Goals as goal

pub overflow_mul-q : goal.overflow_mul-q
overflow_mul-q c = omega (arith, c.local_number-q.ensures, local_lt c.args.e)

pub returns : goal.returns
returns c = let a = c.args in
    field_scrambled a.a a.field.now a.self.now.scr.now c.placed.result c.element.result a.e a.self.now.sequence
    (rw c.local_number-q.ensures at c.placed.ensures) c.element.ensures
