-- Document 01: the listed words "are exactly those that hold a bit of the block, its CRC or parity". What `listed` and the list mean; that they
-- do is proved in proofs/Listing.antt (`listed_holding`, `holding_listed`) and proofs/Promises.antt (`list_is`).
-- Assumes nothing: these are definitions.
use Rattle.std.specs.Prelude.{ℕ, ◌+◌, ◌*◌, ◌%◌, ◌≤◌, ◌<◌, true, ◌≡◌, List, length, get_or}
use Rattle.prelude.specs.Loops.{count}
use Rattle.sizes.specs.Sizes.{fec_blocks, element_bits, super_elements, fec_elements, words}
use Rattle.line.specs.Slots.{element_in, holds}
use Rattle.edit_spec.specs.Edit.{fec_of, touched, element_fec, element_local, listed}

-- one of the n bits from bit i of an FEC block on is of client block b, of the CRC or of the parity
pub record Touch (b i n : ℕ) : Type 0 where
  pub bit : ℕ
  pub within : bit < n
  pub there : touched b (i + bit) ≡ true

-- word w holds such a bit: it holds an element of the client block's FEC block, and that element has one
pub record Holding (N b w : ℕ) : Type 0 where
  pub element : holds N w ≡ true
  pub no_pad : element_in w % super_elements < fec_elements * fec_blocks
  pub block : element_fec (element_in w) ≡ fec_of b
  pub touch : Touch b (element_bits * element_local (element_in w)) element_bits

-- the list: as long as the count, 141 or 142; strictly rising; only listed words, and each of them
pub record Lists (N b : ℕ) (l : List ℕ) : Type 0 where
  pub long : length l ≡ count (listed N b) (words N)
  pub at_least : 141 ≤ length l
  pub at_most : length l ≤ 142
  pub rises : (i j : ℕ) → i < j → j < length l → get_or l i 0 < get_or l j 0
  pub only : (i : ℕ) → i < length l → (get_or l i 0 < words N) × (listed N b (get_or l i 0) ≡ true)
  pub each : (w : ℕ) → w < words N → listed N b w ≡ true → (count (listed N b) w < length l) × (get_or l (count (listed N b) w) 0 ≡ w)
