-- `fill` meets its contract: a short buffer comes from the register alone, a longer one goes on by sums. Assumes nothing.
use mathlib.Core.Path.{refl, ◌∙◌}
use native.Mathlib.Omega.{arith}
use Rattle.scrambler.proofs.Strides.{stride_1, stride_4, stride_16, stride_64, opened_all, opened_begun, sequence_begun_all}
use Rattle.scrambler.proofs.fill.Goals as goal

pub go_on-requires : goal.go_on-requires
go_on-requires c = let b = c.begin-else-n-lt1024.ensures in (omega arith, stride_1, omega arith, omega (arith, b.long), opened_begun b (omega arith))

pub go_on-requires-else-n-lt1024 : goal.go_on-requires-else-n-lt1024
go_on-requires-else-n-lt1024 c = let g = c.go_on.ensures in
    let b = c.begin-else-n-lt1024.ensures in
    (omega arith, stride_4, omega arith, omega (arith, g.1, b.long), g.0)

pub go_on-requires-else-n-lt1024-2 : goal.go_on-requires-else-n-lt1024-2
go_on-requires-else-n-lt1024-2 c = let b = c.begin-else-n-lt1024.ensures in
    (omega arith, stride_16, omega arith, omega (arith, c.go_on-else-n-lt1024.ensures.1, c.go_on.ensures.1, b.long), c.go_on-else-n-lt1024.ensures.0)

pub go_on-requires-else-n-lt1024-3 : goal.go_on-requires-else-n-lt1024-3
go_on-requires-else-n-lt1024-3 c = let b = c.begin-else-n-lt1024.ensures in
    (omega arith, stride_64, omega arith, omega (arith, c.go_on-else-n-lt1024-2.ensures.1, c.go_on-else-n-lt1024.ensures.1, c.go_on.ensures.1, b.long), c.go_on-else-n-lt1024-2.ensures.0)

pub returns-then-n-lt1024 : goal.returns-then-n-lt1024
returns-then-n-lt1024 c = opened_all _ c.begin.ensures refl

pub returns-else-n-lt1024 : goal.returns-else-n-lt1024
returns-else-n-lt1024 c = let b = c.begin-else-n-lt1024.ensures in
    sequence_begun_all _ c.go_on-else-n-lt1024-3.ensures.0 (c.go_on-else-n-lt1024-3.ensures.1 ∙ c.go_on-else-n-lt1024-2.ensures.1 ∙ c.go_on-else-n-lt1024.ensures.1 ∙ c.go_on.ensures.1 ∙ b.long)
