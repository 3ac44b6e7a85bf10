-- The first line read a part of the input at a time, whatever its length: what is kept between the parts. Assumes nothing: these are definitions.
use Rattle.std.specs.Prelude.{ℕ, suc, ◌≤◌, ◌≡◌, true, false, cond, Option, Some, None, List, ltb, eqb, length, get_or}
use Rattle.std.specs.Option.{unwrap_or, option_flatten}
use Rattle.prelude.specs.Loops.{upto}
use Rattle.answer.specs.Numbers.{outside_set}
use Rattle.answer.specs.Rows.{done, refused}
use Rattle.answer.specs.declared.Answer.{Answer}
use Rattle.decimal.specs.Steps.{next_value, next_at}
use Rattle.sizes.specs.Sizes.{places}
use Rattle.gmp_count.specs.declared.Partial.{Partial}

-- above every count: a number that is larger is read as this
abbrev pub too_much : ℕ
too_much = suc places

-- nothing was read
abbrev pub nothing_read : Partial
nothing_read = record { value = None; ended = false }

-- one byte more behind bytes whose number is v; none where they are not all digits
abbrev pub next_of : Option ℕ → ℕ → Option ℕ
next_of (Some v) b = next_value too_much v b
next_of None b = None

-- one byte more; behind the line's end nothing counts
unfoldable pub step_of : Partial → ℕ → Partial
step_of l b =
    cond l.ended l
    (cond (eqb b 10) (record { value = l.value; ended = true })
    (record { value = Some (next_of (unwrap_or l.value (Some 0)) b); ended = false }))

-- byte i of s more
unfoldable pub step_at : List ℕ → ℕ → Partial → Partial
step_at s i l = step_of l (get_or s i 0)

-- all bytes of s more
abbrev pub more_of : Partial → List ℕ → Partial
more_of l s = upto (step_at s) l (length s)

-- the first k bytes of s leave a number v as it is
pub record Unchanged (v : ℕ) (s : List ℕ) (k : ℕ) : Type 0 where
  pub within : k ≤ length s
  pub is : Some v ≡ upto (next_at too_much s) (Some v) k

-- what was read, as a count: an empty line is none, nor is one that is not all digits, nor what is above P
abbrev pub told_as_count : Option ℕ → Answer
told_as_count None = refused outside_set 0
told_as_count (Some v) = cond (ltb places v) (refused outside_set 0) (done v)

unfoldable pub so_far : Partial → Answer
so_far l = told_as_count (option_flatten l.value)
