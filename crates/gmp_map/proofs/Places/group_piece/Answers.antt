-- `gmp_map::Places::group_piece` meets its contract: the laws `no_group` and `some_group`. Assumes nothing.
use native.Mathlib.Omega.{arith}
use Rattle.gmp_map.proofs.Ranks.{Located, located, no_group, some_group}
use Rattle.gmp_map.proofs.Places.group_piece.Goals.{Else-d-q}
use Rattle.gmp_map.proofs.Places.group_piece.Goals as goal

inside : (c : Else-d-q) → Located c.args.self.c c.args.self.f c.args.q
inside c = located c.args.self.c c.args.self.f c.args.self.n c.args.q c.args.self.window c.requires.is c.if-d-q.false

pub returns-then-d-q : goal.returns-then-d-q
returns-then-d-q c = no_group _ _ _ _ c.args.self.window c.requires.is c.if-d-q.true

pub overflow_mul-place : goal.overflow_mul-place
overflow_mul-place c = omega (arith, inside c)

pub overflow_add-place : goal.overflow_add-place
overflow_add-place c = omega (arith, inside c)

pub overflow_add-place-2 : goal.overflow_add-place-2
overflow_add-place-2 c = omega (arith, inside c)

pub overflow_mul-place-2 : goal.overflow_mul-place-2
overflow_mul-place-2 c = omega (arith, inside c)

pub overflow_sub-place-2 : goal.overflow_sub-place-2
overflow_sub-place-2 c = omega (arith, inside c)

pub overflow_add-place-3 : goal.overflow_add-place-3
overflow_add-place-3 c = omega (arith, inside c)

pub nonzero_div-place-2 : goal.nonzero_div-place-2
nonzero_div-place-2 c = omega (arith, inside c)

pub overflow_sub-place-3 : goal.overflow_sub-place-3
overflow_sub-place-3 c = omega (arith, inside c)

pub overflow_mul-result : goal.overflow_mul-result
overflow_mul-result c = omega (arith, (some_group _ _ _ _ c.args.self.window c.requires.is c.if-d-q.false).placed)

pub returns : goal.returns
returns c = some_group _ _ _ _ c.args.self.window c.requires.is c.if-d-q.false
