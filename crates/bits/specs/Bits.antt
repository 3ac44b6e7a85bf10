-- Numbers made from bits, and the bits of packed elements.
-- "Bits are packed first bit in the top bit of the first byte" (document 01). A bit is the number 0 or 1; a buffer is the list of its
-- elements. Everything is over the width w of an element; bytes are w = 8. Assumes nothing: these are definitions.
use Rattle.std.specs.Prelude.{ℕ, zero, suc, ◌+◌, ◌-◌, ◌*◌, ◌/◌, ◌%◌, ◌^◌, ◌<◌, List, get_or}
use Rattle.prelude.specs.Lists.{tabulate}

-- the number whose w binary digits are f a, f (a + 1), .., f (a + w - 1), the first on top
unfoldable pub num : ℕ → (ℕ → ℕ) → ℕ → ℕ
num zero f a = zero
num (suc w) f a = num w f a * 2 + f (a + w)

-- digit j of a number of w binary digits, the top one being digit 0
unfoldable pub digit : ℕ → ℕ → ℕ → ℕ
digit w x j = x / 2 ^ (w - 1 - j) % 2

-- bit i of a list of w-bit elements, the first bit being the top one of the first element; 0 past the end
unfoldable pub bit_of : ℕ → List ℕ → ℕ → ℕ
bit_of w s i = digit w (get_or s (i / w) 0) (i % w)

-- n elements of w bits each from a bit function
abbrev pub packs : ℕ → ℕ → (ℕ → ℕ) → List ℕ
packs w n f = tabulate n (λ k. num w f (w * k))

-- the same for bytes
abbrev pub bit_at : List ℕ → ℕ → ℕ
bit_at s i = bit_of 8 s i

abbrev pub byte_of : (ℕ → ℕ) → ℕ → ℕ
byte_of f k = num 8 f (8 * k)

abbrev pub pack : ℕ → (ℕ → ℕ) → List ℕ
pack n f = packs 8 n f

-- bit by bit, the sum without carries
abbrev pub added : (ℕ → ℕ) → (ℕ → ℕ) → ℕ → ℕ
added f g i = (f i + g i) % 2

-- every value of f is a bit
abbrev pub Bits : (ℕ → ℕ) → Type 0
Bits f = (i : ℕ) → f i < 2

-- every element is a byte
abbrev pub Bytes : List ℕ → Type 0
Bytes s = (k : ℕ) → get_or s k 0 < 256
