-- Document 01, "Code words": the code words of a capture (001 section 10.5), and the way back. How their bytes stand in it is
-- line_order.specs.Order's. Assumes nothing: these are definitions.
use Rattle.std.specs.Prelude.{ℕ, List}
use Rattle.bits.specs.Bits.{bit_at}
use Rattle.hamming.specs.Code.{coded}
use Rattle.line.specs.Frames.{super_of, element_of, super_from, fec_from}
use Rattle.line.specs.Slots.{slot_of, slot_bit}

-- word w of N super frames, of FEC blocks with the bits F; a filler word is the code word of the zero element
unfoldable pub words_of : ℕ → (ℕ → ℕ → ℕ) → ℕ → List ℕ
words_of N F w = coded (slot_bit N (element_of (super_of F)) w)

-- ---- back: bit i of element e of the words W; the bits of their super frames and FEC blocks
unfoldable pub element_from : (ℕ → List ℕ) → ℕ → ℕ → ℕ
element_from W e i = bit_at (W (slot_of e)) i

unfoldable pub super_in : (ℕ → List ℕ) → ℕ → ℕ → ℕ
super_in W = super_from (element_from W)

unfoldable pub fec_in : (ℕ → List ℕ) → ℕ → ℕ → ℕ
fec_in W = fec_from (super_in W)
