-- Bits at their places: a field that begins somewhere, and a stretch of places that is taken from other bits; and what the small functions
-- answer. Assumes nothing: these are definitions.
use Rattle.std.specs.Prelude.{ℕ, ◌+◌, ◌-◌, ◌≤◌, ◌<◌, cond, ◌&&◌, List, ltb, leb}
use Rattle.bits.specs.Bits.{digit, bit_at, byte_of}
use Rattle.sizes.specs.Sizes.{word_bytes}

-- from place q on, the bits of a field f that begins at place a: zeros before it
unfoldable pub placed_at : ℕ → ℕ → (ℕ → ℕ) → ℕ → ℕ
placed_at a q f i = cond (ltb (q + i) a) 0 (f (q + i - a))

-- from place q on, f in the places a .. z - 1, and g in the others
unfoldable pub masked : ℕ → ℕ → ℕ → (ℕ → ℕ) → (ℕ → ℕ) → ℕ → ℕ
masked a z q f g i = cond (leb a (q + i) && ltb (q + i) z) (f i) (g i)

-- ---- a byte at a time

-- r of the eight places from p on lie before place a
pub record EightBefore (p a r : ℕ) : Type 0 where
  pub few : r ≤ 8
  pub low : (j : ℕ) → j < r → p + j < a
  pub high : (j : ℕ) → r ≤ j → j < 8 → a ≤ p + j

-- the first c bits of x, and then the others of y: x under the mask of the first c places
unfoldable pub fronted : ℕ → ℕ → ℕ → ℕ → ℕ
fronted c x y j = cond (ltb j c) (digit 8 x j) (digit 8 y j)

-- byte k of sixteen bytes of zeros with the bytes s behind them
unfoldable pub room_byte : List ℕ → ℕ → ℕ
room_byte s k = cond (ltb k word_bytes) 0 (byte_of (bit_at s) (k - word_bytes))
