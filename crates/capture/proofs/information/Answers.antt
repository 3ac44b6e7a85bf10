-- `capture::information` meets its contract: the part itself, or the empty part. Assumes nothing.
use mathlib.Core.Path.{refl}
use native.Mathlib.Omega.{arith}
use Rattle.capture.proofs.Parting.{Part, granted_part, part_given, part_empty}
use Rattle.capture.proofs.information.Goals.{In-Ok}
use Rattle.capture.proofs.information.Goals as goal
use Rattle.answer.proofs.Results.{not_done}

-- what a granted request has shown
shown : (c : In-Ok) → Part c.args.n c.args.t c.args.info.now
shown c = let a = c.args in granted_part a.n a.t a.info.now c.in-Ok.ensures refl

pub overflow_mul-from : goal.overflow_mul-from
overflow_mul-from c = omega (arith, shown c)

pub overflow_add-result : goal.overflow_add-result
overflow_add-result c = omega (arith, shown c)

pub slice_bounds-result-end : goal.slice_bounds-result-end
slice_bounds-result-end c = omega (arith, shown c)

pub returns-in-Ok : goal.returns-in-Ok
returns-in-Ok c = let a = c.args in part_given a.n a.t a.info.now c.in-Ok.ensures refl

pub returns-in-Err : goal.returns-in-Err
returns-in-Err c = let a = c.args in part_empty a.n a.t a.info.now c.in-Err.ensures (not_done c.in-Err.field-0)
