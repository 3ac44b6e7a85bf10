-- The steps of an edit as the code takes them: a word made anew from its received bytes, and how far a pass has come. Assumes nothing: these are definitions.
use Rattle.std.specs.Prelude.{ℕ, ◌+◌, ◌-◌, ◌*◌, ◌/◌, ◌%◌, ◌≤◌, ◌<◌, Bool, true, false, cond, ◌≡◌, Option, Some, None, MatchOption, List, ◌++◌, length, set, drop, ltb}
use Rattle.bits.specs.Bits.{digit, bit_at, pack, added}
use Rattle.bits_place.specs.Steps.{placed_at, masked}
use Rattle.prelude.specs.Loops.{first, count}
use Rattle.scrambler.specs.Scrambler.{o}
use Rattle.scrambling.specs.Steps.{frame_place}
use Rattle.hamming.specs.Code.{coded}
use Rattle.line_order.specs.Steps.{done_to, put_word}
use Rattle.sizes.specs.Sizes.{crc_bits, parity_bytes, fec_blocks, element_bits, super_elements, fec_elements, capture_length, longest_wait, blocks_of}
use Rattle.sizes.specs.Sizes.{block_bits, info_elements, block_bytes, list_length, most_frames, word_bytes}
use Rattle.line.specs.Fec.{fields}
use Rattle.line.specs.Slots.{element_in}
use Rattle.line.specs.Words.{fec_in}
use Rattle.line_order.specs.Order.{laid, word_in}
use Rattle.edit_spec.specs.Edit.{fec_of, in_block, block_from, element_local, crc_change, listed, picked, edited_word, client_spare_set}

-- ---- what a call has shown that none of the numbers 1 to 3 refuses
pub record AcceptedEdit (N b : ℕ) (bits parity cap list : List ℕ) : Type 0 where
  pub some : 1 ≤ N
  pub few : N ≤ most_frames
  pub block : b < blocks_of N
  pub bits_long : length bits ≡ block_bytes
  pub parity_long : length parity ≡ parity_bytes
  pub capture_long : length cap ≡ capture_length N
  pub list_long : length list ≡ list_length
  pub no_spare : client_spare_set bits ≡ false

-- of the numbers from .. to - 1 the first that p picks, if one is picked
abbrev pub FirstIn : (ℕ → Bool) → ℕ → ℕ → Option ℕ → Type 0
FirstIn p from to r =
    MatchOption r ((k : ℕ) → from ≤ k → k < to → p k ≡ false)
    (λ i. (from ≤ i) × (i < to) × (p i ≡ true) × ((k : ℕ) → from ≤ k → k < i → p k ≡ false))

-- ---- where the listed words are

-- the first element of client block b's FEC block
abbrev pub first_element : ℕ → ℕ
first_element b = super_elements * (fec_of b / fec_blocks) + fec_elements * (fec_of b % fec_blocks)

-- the words that can be listed: from the first element of the client block on, to 480 past the last element of its FEC block
abbrev pub stretch_from : ℕ → ℕ
stretch_from b = first_element b + block_from b / element_bits

abbrev pub stretch_to : ℕ → ℕ
stretch_to b = first_element b + (fec_elements + longest_wait)

-- the answer r of a test of element e: one of the FEC block's last 138, which hold CRC and parity; one that holds a bit of client block b
pub record InTail (b e : ℕ) (r : Bool) : Type 0 where
  pub yes : r ≡ true → (first_element b + info_elements ≤ e) × (e < first_element b + fec_elements)
  pub no : r ≡ false → first_element b + info_elements ≤ e → first_element b + fec_elements ≤ e

pub record InBlock (b e : ℕ) (r : Bool) : Type 0 where
  pub yes : r ≡ true → (first_element b + block_from b / element_bits ≤ e) × (e ≤ first_element b + (block_from b + (block_bits - 1)) / element_bits)
  pub no : r ≡ false → first_element b + block_from b / element_bits ≤ e → first_element b + (block_from b + (block_bits - 1)) / element_bits < e

-- a word of that stretch behind the words of the client block's elements and before those of CRC and parity: none is listed there
pub record Between (b w : ℕ) : Type 0 where
  pub behind : first_element b + ((block_from b + (block_bits - 1)) / element_bits + longest_wait) < w
  pub before : w < first_element b + info_elements

-- the words that can hold an element of the client block, from .. to - 1: behind them none is listed before those of CRC and parity
pub record OwnWords (b from to : ℕ) : Type 0 where
  pub start : from ≡ stretch_from b
  pub rises : from ≤ to
  pub within : to ≤ first_element b + info_elements
  pub over : (x : ℕ) → to ≤ x → x < first_element b + info_elements → Between b x

-- ---- a word made anew

-- the bit at place p of the edited FEC block and place k of the super frame, scrambled, where x was received there and crc is the change
-- of the CRC: new bits are scrambled anew, and what stays is as it was received
unfoldable pub new_info_bit : ℕ → List ℕ → ℕ → ℕ → ℕ → ℕ
new_info_bit b bits p k x = cond (in_block b p) ((bit_at bits (p - block_from b) + o k) % 2) x

unfoldable pub new_bit : ℕ → List ℕ → List ℕ → ℕ → ℕ → ℕ → ℕ → ℕ
new_bit b bits parity crc p k x =
    fields (λ j. new_info_bit b bits j k x) (λ j. (x + digit crc_bits crc j) % 2) (λ j. x) (λ j. (bit_at parity j + o k) % 2) p

-- bit i of element e, of the received word old
unfoldable pub new_element : ℕ → List ℕ → List ℕ → ℕ → ℕ → List ℕ → ℕ → ℕ
new_element b bits parity crc e old i =
    new_bit b bits parity crc (element_bits * element_local e + i) (element_bits * (e % super_elements) + i) (bit_at old i)

-- ---- the same as the code makes it, eight bits at a time

-- bit i of element e, scrambled, of a field that begins at place a of the FEC block
unfoldable pub field_element : ℕ → List ℕ → ℕ → ℕ → ℕ
field_element a field e i = (placed_at a (element_bits * element_local e) (bit_at field) i + o (frame_place e + i)) % 2

-- the received word old, with that field in the places a .. z - 1 of the FEC block
abbrev pub with_field : ℕ → ℕ → List ℕ → ℕ → List ℕ → ℕ → ℕ
with_field a z field e old = masked a z (element_bits * element_local e) (field_element a field e) (bit_at old)

-- the CRC's change at the head of a word, and the received word with it
unfoldable pub crc_bit : ℕ → ℕ → ℕ
crc_bit crc i = cond (ltb i crc_bits) (digit crc_bits crc i) 0

abbrev pub with_crc : ℕ → List ℕ → List ℕ
with_crc crc old = pack word_bytes (added (bit_at old) (crc_bit crc))

-- word w, check bits and all
unfoldable pub remade : ℕ → List ℕ → List ℕ → ℕ → ℕ → List ℕ → List ℕ
remade b bits parity crc w old = coded (new_element b bits parity crc (element_in w) old)

-- ---- the pass over the words: those below w are done

-- the words of the capture so far
abbrev pub mixed : ℕ → ℕ → List ℕ → List ℕ → List ℕ → ℕ → ℕ → List ℕ
mixed N b bits parity cap w = done_to w (edited_word N b bits parity cap) (word_in cap)

-- the list so far: the words listed, and the entries that are not written yet
unfoldable pub listing : ℕ → ℕ → List ℕ → ℕ → List ℕ
listing N b list w = picked (listed N b) w ++ drop (count (listed N b) w) list

-- capture, list and count after the words below w, from the capture cap₀ and the list list₀
pub record Passing (N b : ℕ) (bits parity cap₀ list₀ : List ℕ) (w : ℕ) (cap list : List ℕ) (c : ℕ) : Type 0 where
  pub capture : cap ≡ laid N (mixed N b bits parity cap₀ w)
  pub entries : list ≡ listing N b list₀ w
  pub counted : c ≡ count (listed N b) w

-- a word of the pass: a listed word is made anew and listed; at any other nothing is done
pub record WordPassed (N b : ℕ) (bits parity : List ℕ) (crc w c : ℕ) (cap list cap' list' : List ℕ) (c' : ℕ) : Type 0 where
  pub capture : cap' ≡ cond (listed N b w) (put_word cap w (remade b bits parity crc w (word_in cap w))) cap
  pub entries : list' ≡ cond (listed N b w) (set list c w) list
  pub counted : c' ≡ cond (listed N b w) (c + 1) c

-- a pass has come to word w, and the change of the CRC is crc
pub record Begun (N b : ℕ) (bits parity : List ℕ) (crc w : ℕ) (cap list : List ℕ) (c : ℕ) : Type 0 where
  pub cap₀ : List ℕ
  pub list₀ : List ℕ
  pub list_long : length list₀ ≡ list_length
  pub change : crc ≡ crc_change b bits (fec_in (word_in cap₀) (fec_of b))
  pub passing : Passing N b bits parity cap₀ list₀ w cap list c

-- and it goes on to word v
pub record PassedOn (N b : ℕ) (bits parity : List ℕ) (crc w v : ℕ) (cap list : List ℕ) (c : ℕ) (cap' list' : List ℕ) (c' : ℕ) : Type 0 where
  pub on : (cap₀ list₀ : List ℕ) → length list₀ ≡ list_length → crc ≡ crc_change b bits (fec_in (word_in cap₀) (fec_of b))
      → Passing N b bits parity cap₀ list₀ w cap list c → Passing N b bits parity cap₀ list₀ v cap' list' c'
