-- The sequence added (document 01, "One super frame": "started anew at each super frame"), out of one period of it that is made
-- once and lent. Assumes nothing: these are definitions.
use Rattle.std.specs.Prelude.{ℕ, ◌*◌, ◌%◌, ◌<◌, ◌≡◌, List, get_or}
use Rattle.std.specs.Int.Bits.{bit_xor}
use Rattle.bits.specs.Bits.{byte_of, pack}
use Rattle.scrambler.specs.Scrambler.{o}
use Rattle.scrambler.specs.Steps.{period}
use Rattle.sizes.specs.Sizes.{element_bits, super_elements}

-- byte k of s, and the eight bits of g that stand beside it added without carries
unfoldable pub added_byte : List ℕ → (ℕ → ℕ) → ℕ → ℕ
added_byte s g k = bit_xor (get_or s k 0) (byte_of g k)

-- one period of the sequence, and a word's bits more, so that a word can be cut out anywhere
abbrev pub period_bytes : ℕ
period_bytes = 8208

abbrev pub one_period : List ℕ
one_period = pack period_bytes o

-- the place of element e's first bit in its super frame, and in the period
abbrev pub frame_place : ℕ → ℕ
frame_place e = element_bits * (e % super_elements)

abbrev pub period_place : ℕ → ℕ
period_place e = frame_place e % period

-- two bit functions agree on the 119 bits of an element
abbrev pub Agree : (ℕ → ℕ) → (ℕ → ℕ) → Type 0
Agree f g = (i : ℕ) → i < element_bits → f i ≡ g i
