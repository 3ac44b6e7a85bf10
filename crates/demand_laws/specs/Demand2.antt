-- DEMAND 2: "One to eight super frames, coded and flushed, read back to every client and parity bit even with one flipped bit in each 128-bit
-- word, and the count of such words is exact." The theorem is `demand_2` of proofs/Demand2.antt. Assumes nothing: these are definitions.
use Rattle.std.specs.Prelude.{ℕ, Bool, true, cond, ◌≡◌, List, ltb, eqb, length}
use Rattle.bits.specs.Bits.{Bytes}
use Rattle.prelude.specs.Loops.{count}
use Rattle.hamming.specs.Code.{flip}
use Rattle.sizes.specs.Sizes.{word_bits, info_length, parity_length, words}
use Rattle.line.specs.Captures.{super_allowed}
use Rattle.line.specs.Fec.{mbas_allowed, mbas_of}
use Rattle.line_order.specs.Order.{laid, word_in}
use Rattle.answer.specs.Rows.{done}
use Rattle.answer.specs.declared.Answer.{Answer}
use Rattle.code.specs.Code.{capture_of}
use Rattle.read_spec.specs.Read.{read_answer, read_leaves}

-- what is asked of an input: N super frames, an allowed first number, and buffers of the stated lengths. Every input that document 01 allows
-- is one: `input_all` of proofs/Allowed.antt
pub record Input (N m0 : ℕ) (info par : List ℕ) : Type 0 where
  pub frames : super_allowed N ≡ true
  pub number : mbas_allowed m0 ≡ true
  pub info_long : length info ≡ info_length N
  pub info_are_bytes : Bytes info
  pub parity_long : length par ≡ parity_length N
  pub parity_are_bytes : Bytes par

-- at most one bit to be flipped in each word: a number below 128, the bits of a word, is that bit, any other number is none
abbrev pub Flips : Type 0
Flips = ℕ → ℕ

abbrev pub is_flipped : Flips → ℕ → Bool
is_flipped flips w = ltb (flips w) word_bits

-- a word with that bit flipped, and a capture with each of its words so
unfoldable pub flip_if : List ℕ → ℕ → List ℕ
flip_if w p = cond (ltb p word_bits) (flip w p) w

unfoldable pub flipped : ℕ → Flips → List ℕ → List ℕ
flipped N flips cap = laid N (λ w. flip_if (word_in cap w) (flips w))

-- how many words have a bit flipped
unfoldable pub how_many : ℕ → Flips → ℕ
how_many N flips = count (is_flipped flips) (words N)

-- what reading comes to: the answer r, and what is left in the two buffers
pub record ReadsBack (info par : List ℕ) (seen : ℕ) (r : Answer) (left : List ℕ × List ℕ) : Type 0 where
  pub answer : r ≡ done seen
  pub buffers : left ≡ (info, par)

-- whatever the two buffers held before
abbrev pub Demand2 : ℕ → ℕ → List ℕ → List ℕ → Flips → Type 0
Demand2 N m0 info par flips =
    (info₀ par₀ : List ℕ) → length info₀ ≡ info_length N → length par₀ ≡ parity_length N
    → ReadsBack info par (how_many N flips) (read_answer N m0 (flipped N flips (capture_of N m0 info par)) info₀ par₀)
    (read_leaves N m0 (flipped N flips (capture_of N m0 info par)) info₀ par₀)

-- the first FEC block whose MBAS tells a capture counted from m0 from one counted from m1: block 0, and where both have one half there, block 1 (M-102)
unfoldable pub apart_at : ℕ → ℕ → ℕ
apart_at m0 m1 = cond (eqb (mbas_of m0 0) (mbas_of m1 0)) 1 0
