-- Document 01, "One super frame": five FEC blocks and the pad, scrambled, cut into elements (001 sections 10.2 and 10.3); and the way
-- back. Each layer takes the layer before it as a function of an index. Assumes nothing: these are definitions.
use Rattle.std.specs.Prelude.{ℕ, ◌+◌, ◌*◌, ◌/◌, ◌%◌, cond, List, ltb}
use Rattle.bits.specs.Bits.{pack}
use Rattle.scrambler.specs.Scrambler.{o}
use Rattle.sizes.specs.Sizes.{info_bits, parity_bits, parity_from, fec_bits, fec_blocks, pad_from, element_bits, super_elements, info_length, parity_length}

-- bit k of super frame f, of FEC blocks with the bits F: five of them, and the pad, which is zero
unfoldable pub super_of : (ℕ → ℕ → ℕ) → ℕ → ℕ → ℕ
super_of F f k = cond (ltb k pad_from) (F (fec_blocks * f + k / fec_bits) (k % fec_bits)) 0

-- bit i of element e, of super frames with the bits S: everything is scrambled, the pad too, anew in each super frame
unfoldable pub element_of : (ℕ → ℕ → ℕ) → ℕ → ℕ → ℕ
element_of S e i = (S (e / super_elements) (element_bits * (e % super_elements) + i) + o (element_bits * (e % super_elements) + i)) % 2

-- ---- back

-- bit k of super frame f, descrambled, of elements with the bits E
unfoldable pub super_from : (ℕ → ℕ → ℕ) → ℕ → ℕ → ℕ
super_from E f k = (E (super_elements * f + k / element_bits) (k % element_bits) + o k) % 2

-- bit i of FEC block t, of super frames with the bits S
unfoldable pub fec_from : (ℕ → ℕ → ℕ) → ℕ → ℕ → ℕ
fec_from S t i = S (t / fec_blocks) (fec_bits * (t % fec_blocks) + i)

-- the information and the parity of N super frames, of FEC blocks with the bits F
unfoldable pub info_of : ℕ → (ℕ → ℕ → ℕ) → List ℕ
info_of N F = pack (info_length N) (λ j. F (j / info_bits) (j % info_bits))

unfoldable pub parity_of : ℕ → (ℕ → ℕ → ℕ) → List ℕ
parity_of N F = pack (parity_length N) (λ j. F (j / parity_bits) (parity_from + j % parity_bits))
