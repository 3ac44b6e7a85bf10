-- `Changes::with_field` meets its contract. Assumes nothing.
use native.Mathlib.Omega.{arith}
use Rattle.edit_spec.proofs.Listing.{local_lt}
use Rattle.edit_spec.proofs.Remaking.{field_masked}
use Rattle.edit.proofs.Changes.with_field.Goals as goal

pub overflow_mul-q : goal.overflow_mul-q
overflow_mul-q c = omega (arith, c.local_number-q.ensures, local_lt c.args.e)

pub overflow_cast-q : goal.overflow_cast-q
overflow_cast-q c = omega (arith, c.local_number-q.ensures, local_lt c.args.e)

pub returns : goal.returns
returns c = let a = c.args in
    field_masked a.a a.z a.field.now a.e a.old c.field_element.result c.under.result c.field_element.ensures (rw c.local_number-q.ensures at c.under.ensures)
