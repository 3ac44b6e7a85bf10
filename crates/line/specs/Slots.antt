-- Document 01, "One super frame", the interleaver (001 section 10.4): element e, counted from 0 over the capture, leaves in word slot
-- e + 32 (15 - e mod 16). The slots that no element fills hold zero elements. Assumes nothing: these are definitions.
use Rattle.std.specs.Prelude.{ℕ, ◌+◌, ◌-◌, ◌*◌, ◌%◌, Bool, cond, ◌&&◌, ltb, leb}
use Rattle.sizes.specs.Sizes.{super_elements, rows, row_wait}

-- how many words an element waits: by its row, the first row longest
unfoldable pub delay : ℕ → ℕ
delay e = row_wait * (rows - 1 - e % rows)

-- the slot of element e
unfoldable pub slot_of : ℕ → ℕ
slot_of e = e + delay e

-- the element that word w holds, and whether it holds one of N super frames; if not, it is filler. The way back of `slot_of`: `element_slot`, `held`
-- and `slot_once` of proofs/SlotLaws.antt
unfoldable pub element_in : ℕ → ℕ
element_in w = w - delay w

unfoldable pub holds : ℕ → ℕ → Bool
holds N w = leb (delay w) w && ltb (element_in w) (super_elements * N)

-- bit i of what word w holds, of elements with the bits E; filler is zero
unfoldable pub slot_bit : ℕ → (ℕ → ℕ → ℕ) → ℕ → ℕ → ℕ
slot_bit N E w i = cond (holds N w) (E (element_in w) i) 0
