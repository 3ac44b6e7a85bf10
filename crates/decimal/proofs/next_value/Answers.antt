-- `decimal::next_value` meets its contract: each return by the tests that led there. Assumes nothing.
use borrow.Author.Tests.{lt-ltb, le-ltb}
use mathlib.Core.Path.{◌≡◌, refl, ap}
use native.Mathlib.Omega.{arith}
use Rattle.std.specs.Char.{is_ascii_digit}
use Rattle.std.specs.Prelude.{Some}
use Rattle.decimal.specs.Digits.{is_digit}
use Rattle.decimal.specs.Steps.{next_value}
use Rattle.decimal.proofs.next_value.Goals.{then-most-v-via-then-most-v, then-most-v-via-else-most-v+then-not-is_ascii_digit}
use Rattle.decimal.proofs.next_value.Goals as goal

-- the library's test
same_digit : (b : _) → is_ascii_digit b ≡ is_digit b
same_digit b = refl

pub returns-then-most-v : goal.returns-then-most-v
unfolding next_value
returns-then-most-v c = elim c.then-most-v.branch [
  | then-most-v-via-then-most-v w ↦ rw (lt-ltb c.args.most c.args.v (omega arith)) refl
  | then-most-v-via-else-most-v+then-not-is_ascii_digit w ↦
      rw (le-ltb c.args.most c.args.v (omega arith), ← same_digit c.args.b, ← w.is_ascii_digit.ensures.value, w.if-not-is_ascii_digit.true) refl
]

pub returns : goal.returns
unfolding next_value
returns c = rw (le-ltb c.args.most c.args.v (omega arith), ← same_digit c.args.b, ← c.is_ascii_digit.ensures.value, c.if-not-is_ascii_digit.false) (ap Some (omega arith))
