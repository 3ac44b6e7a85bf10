-- The generator xorshift64*: a state of 64 bits, a step, and what is given out after it. Assumes nothing: these are definitions.
use Rattle.std.specs.Prelude.{ℕ, suc, ◌*◌, ◌/◌, ◌%◌, ◌^◌, cond, ◌≡◌, List, eqb, length}
use Rattle.std.specs.Int.Bits.{bit_xor}
use Rattle.prelude.specs.Lists.{tabulate}
use Rattle.prelude.specs.Loops.{upto}
use Rattle.test_data.specs.declared.Generator.{Generator}

-- the three parts of a step: x ^= x >> 12, x ^= x << 25, x ^= x >> 27
unfoldable pub right12 : ℕ → ℕ
right12 x = bit_xor x (x / 2 ^ 12)

unfoldable pub left25 : ℕ → ℕ
left25 x = bit_xor x (x * 2 ^ 25 % 2 ^ 64)

unfoldable pub right27 : ℕ → ℕ
right27 x = bit_xor x (x / 2 ^ 27)

-- a step
unfoldable pub next : ℕ → ℕ
next x = right27 (left25 (right12 x))

-- what is given out in a state: times 0x2545F4914F6CDD1D
unfoldable pub number : ℕ → ℕ
number x = x * 2685821657736338717 % 2 ^ 64

-- the upper half of it below m
unfoldable pub below : ℕ → ℕ → ℕ
below x m = cond (eqb m 0) 0 (number x / 2 ^ 32 % m)

-- the state after k steps
unfoldable pub after : ℕ → ℕ → ℕ
after x k = upto (λ _ y. next y) x k

-- the top eight bits of what is given out
unfoldable pub top_byte : ℕ → ℕ
top_byte n = n / 2 ^ 56

-- what is made of what is given out after k + 1 steps: `made` says what is made of it
unfoldable pub made_by : {A : Type 0} → (ℕ → A) → ℕ → ℕ → A
made_by made x k = made (number (after x (suc k)))

-- whole, and the top eight bits of it
unfoldable pub numbers_from : ℕ → ℕ → ℕ
numbers_from x k = number (after x (suc k))

unfoldable pub bytes_from : ℕ → ℕ → ℕ
bytes_from x k = number (after x (suc k)) / 2 ^ 56

-- a buffer is filled, one step for each element, where `gives` says what the elements are; h is the generator afterwards
pub record Made {A : Type 0} (gives : ℕ → ℕ → A) (g : Generator) (before : List A) (h : Generator) (left : List A) : Type 0 where
  pub filled : left ≡ tabulate (length before) (gives g.state)
  pub state : h ≡ record { state = after g.state (length before) }
