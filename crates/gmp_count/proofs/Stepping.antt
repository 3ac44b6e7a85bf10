-- One byte more, as the code's tests show it. Assumes nothing.
use Prim.Native.Nat.{ℕ, ◌≤◌, ◌<◌}
use mathlib.Core.Bool.{true, false}
use mathlib.Core.Path.{◌≡◌, refl}
use borrow.Author.Tests.{eq-eqb, ne_eqb, lt-ltb, le-ltb}
use Rattle.std.specs.Prelude.{Option, Some, None}
use Rattle.std.specs.Option.{unwrap_or, option_flatten}
use Rattle.answer.specs.Numbers.{outside_set}
use Rattle.answer.specs.Rows.{done, refused}
use Rattle.decimal.specs.Steps.{next_value}
use Rattle.sizes.specs.Sizes.{places}
use Rattle.gmp_count.specs.Steps.{too_much, next_of, step_of, so_far}
use Rattle.gmp_count.specs.declared.Partial.{Partial}

pub step_ended : (l : Partial) (b : ℕ) → l.ended ≡ true → l ≡ step_of l b
unfolding step_of
step_ended l b e = rw e

pub step_feed : (l : Partial) (b : ℕ) → l.ended ≡ false → b ≡ 10 → record { value = l.value; ended = true } ≡ step_of l b
unfolding step_of
step_feed l b e h = rw (e, eq-eqb b 10 h)

pub step_byte : (l : Partial) (b : ℕ) {v : Option ℕ} → l.ended ≡ false → (b ≡ 10 → ⊥) → v ≡ next_of (unwrap_or l.value (Some 0)) b
    → record { value = Some v; ended = false } ≡ step_of l b
unfolding step_of
step_byte l b e h p = rw (e, ne_eqb b 10 h, p)

pub ruleset steps = (step_ended, step_feed, step_byte)

-- ---- the number of the bytes, one byte more

pub next_byte : {x : Option ℕ} {v : ℕ} (b : ℕ) {w : Option ℕ} → x ≡ Some v → w ≡ next_value too_much v b → w ≡ next_of x b
next_byte b e h = rw (e, h) refl

pub next_none : {x : Option ℕ} (b : ℕ) → x ≡ None → None ≡ next_of x b
next_none b e = rw e refl

-- ---- what was read, as a count

module _ (l : Partial) {x : Option ℕ} (p : x ≡ option_flatten l.value) where
  pub is_count : {v : ℕ} → x ≡ Some v → v ≤ places → done v ≡ so_far l
  unfolding so_far
  is_count {v} e h = rw (← p, e, le-ltb places v h) refl

  pub too_large : {v : ℕ} → x ≡ Some v → places < v → refused outside_set 0 ≡ so_far l
  unfolding so_far
  too_large {v} e h = rw (← p, e, lt-ltb places v h) refl

  pub no_digits : x ≡ None → refused outside_set 0 ≡ so_far l
  unfolding so_far
  no_digits e = rw (← p, e) refl
