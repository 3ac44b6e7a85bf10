-- `symbol::level` meets its contract: each return is a row of the rule. Assumes nothing.
use Prim.Native.Nat.{◌/◌}
use mathlib.Core.Path.{sym, ap₂}
use Rattle.symbol.specs.Levels.{level_of}
use Rattle.prelude.proofs.Common.{odd_of}
use Rattle.symbol.proofs.level.Goals as goal

pub returns-then-p-eq0-2 : goal.returns-then-p-eq0-2
unfolding level_of
returns-then-p-eq0-2 c = sym (ap₂ level_of c.if-p-eq0.true c.if-p-eq0-2.true)

pub returns-else-p-eq0-2 : goal.returns-else-p-eq0-2
unfolding level_of
returns-else-p-eq0-2 c = sym (ap₂ level_of c.if-p-eq0.true (odd_of c.args.p c.if-p-eq0-2.false))

pub returns-then-p-eq0-3 : goal.returns-then-p-eq0-3
unfolding level_of
returns-then-p-eq0-3 c = sym (ap₂ level_of (odd_of (c.args.p / 2) c.if-p-eq0.false) c.if-p-eq0-3.true)

pub returns-else-p-eq0-3 : goal.returns-else-p-eq0-3
unfolding level_of
returns-else-p-eq0-3 c = sym (ap₂ level_of (odd_of (c.args.p / 2) c.if-p-eq0.false) (odd_of c.args.p c.if-p-eq0-3.false))
