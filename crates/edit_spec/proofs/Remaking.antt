-- A word made anew from its received bytes is the word of the edited FEC block. Assumes nothing.
use Prim.Native.Nat.{ℕ, ◌+◌, ◌-◌, ◌*◌, ◌/◌, ◌%◌, ◌^◌, ◌≤◌, ◌<◌}
use mathlib.Core.Bool.{Bool, true, false, cond, ◌&&◌}
use mathlib.Core.Path.{◌≡◌, refl, sym, ap, ap₂, ◌∙◌}
use mathlib.Core.List.{List, ◌++◌}
use native.Mathlib.Omega.{arith}
use borrow.Author.Tests.{eq-eqb, leb-true, le-leb, lt-leb, lt-ltb, le-ltb}
use lib.Dec.{ltb, leb}
use lib.ListN.{drop, replicate}
use Rattle.prelude.specs.Lists.{tabulate, from_index}
use Rattle.bits.specs.Bits.{digit, bit_at, byte_of, pack, added, Bits}
use Rattle.bits.proofs.Packing.{bit_of_lt, bit_of-packs, packs_ext}
use Rattle.prelude.proofs.Common.{by_bound, cond_bit}
use Rattle.prelude.proofs.Lists.{tabulate_ext, tabulate_add}
use Rattle.bits.proofs.Numbers.{num_ext, num-zero, num_part, digit_lt}
use Rattle.bits_place.specs.Steps.{placed_at, masked}
use Rattle.bits_place.proofs.Masking.{placed_bits, masked_bits}
use Rattle.scrambler.specs.Scrambler.{o}
use Rattle.hamming.specs.Code.{code_word}
use Rattle.hamming.proofs.Words.{coded_ext}
use Rattle.scrambling.specs.Steps.{Agree, one_period, frame_place, period_place}
use Rattle.scrambling.proofs.Adding.{sequence_from}
use Rattle.sizes.specs.Sizes.{info_bits, crc_bits, mbas_bits, mbas_from, parity_from, fec_bits, fec_blocks, element_bits, super_elements, fec_elements, info_elements}
use Rattle.sizes.specs.Sizes.{block_bits, word_bytes, word_bits}
use Rattle.line.specs.Frames.{super_of, element_of}
use Rattle.line.specs.Slots.{element_in, slot_of, slot_bit}
use Rattle.line_order.specs.Order.{word_in}
use Rattle.line.specs.Words.{words_of, fec_in}
use Rattle.line.proofs.FecLaws.{fields_info, fields_crc, fields_mbas, fields_parity, fields_all}
use Rattle.line.proofs.FrameLaws.{element_fec_law}
use Rattle.line.proofs.SlotLaws.{held, held_bit}
use Rattle.edit_spec.specs.Edit.{fec_of, in_block, block_from, replaced, change, crc_change, new_crc, kept_mbas, edited_bits, edited_fec, element_fec, element_local, listed}
use Rattle.edit_spec.specs.Edit.{edited_word}
use Rattle.edit_spec.specs.Steps.{new_info_bit, new_bit, new_element, field_element, with_field, crc_bit, with_crc, remade}
use Rattle.edit_spec.proofs.Changing.{received_at}
use Rattle.edit_spec.proofs.Listing.{listed_holding, local_lt}

-- bit i of element e lies in its FEC block
pub local_place_lt : (e i : ℕ) → i < element_bits → element_bits * element_local e + i < fec_bits
local_place_lt e i h = omega (arith, local_lt e)

-- ---- bits

module _ (b : ℕ) (bits parity : List ℕ) (crc k x : ℕ) where
  abbrev in_info : ℕ → ℕ
  in_info j = new_info_bit b bits j k x

  abbrev in_crc : ℕ → ℕ
  in_crc j = (x + digit crc_bits crc j) % 2

  abbrev in_mbas : ℕ → ℕ
  in_mbas j = x

  abbrev in_parity : ℕ → ℕ
  in_parity j = (bit_at parity j + o k) % 2

  pub new_info_law : (p : ℕ) → p < info_bits → new_bit b bits parity crc p k x ≡ new_info_bit b bits p k x
  unfolding new_bit
  new_info_law = fields_info in_info in_crc in_mbas in_parity

  pub new_crc_law : (j : ℕ) → j < crc_bits → new_bit b bits parity crc (info_bits + j) k x ≡ (x + digit crc_bits crc j) % 2
  unfolding new_bit
  new_crc_law = fields_crc in_info in_crc in_mbas in_parity

  pub new_mbas : (j : ℕ) → j < mbas_bits → new_bit b bits parity crc (mbas_from + j) k x ≡ x
  unfolding new_bit
  new_mbas = fields_mbas in_info in_crc in_mbas in_parity

  pub new_parity_law : (j : ℕ) → new_bit b bits parity crc (parity_from + j) k x ≡ (bit_at parity j + o k) % 2
  unfolding new_bit
  new_parity_law = fields_parity in_info in_crc in_mbas in_parity

-- ---- descrambled, edited and scrambled again, it is the new bit

module _ (b : ℕ) (bits parity : List ℕ) (f : ℕ → ℕ) (k x : ℕ) where
  abbrev Meets : ℕ → Type 0
  Meets p = f p ≡ (x + o k) % 2 → (edited_bits b bits parity f p + o k) % 2 ≡ new_bit b bits parity (crc_change b bits f) p k x

  edited_info : x < 2 → (p : ℕ) → p < info_bits → Meets p
  unfolding edited_bits replaced new_info_bit
  edited_info hx p h e =
      rw (fields_info (replaced b bits f) (new_crc b bits f) (kept_mbas f) (bit_at parity) p h, new_info_law b bits parity (crc_change b bits f) k x p h)
      (by (in_block b p))
    where
      by : (t : Bool) → (cond t (bit_at bits (p - block_from b)) (f p) + o k) % 2 ≡ cond t ((bit_at bits (p - block_from b) + o k) % 2) x
      by true = refl
      by false = omega (arith, e)

  edited_crc : x < 2 → (j : ℕ) → j < crc_bits → Meets (info_bits + j)
  unfolding edited_bits new_crc
  edited_crc hx j h e =
      rw (fields_crc (replaced b bits f) (new_crc b bits f) (kept_mbas f) (bit_at parity) j h, new_crc_law b bits parity (crc_change b bits f) k x j h)
      (omega (arith, e))

  edited_mbas : x < 2 → (j : ℕ) → j < mbas_bits → Meets (mbas_from + j)
  unfolding edited_bits kept_mbas
  edited_mbas hx j h e =
      rw (fields_mbas (replaced b bits f) (new_crc b bits f) (kept_mbas f) (bit_at parity) j h, new_mbas b bits parity (crc_change b bits f) k x j h)
      (omega (arith, e))

  edited_parity : (j : ℕ) → Meets (parity_from + j)
  unfolding edited_bits
  edited_parity j e =
      rw (fields_parity (replaced b bits f) (new_crc b bits f) (kept_mbas f) (bit_at parity) j, new_parity_law b bits parity (crc_change b bits f) k x j)

  pub edited_new : x < 2 → (p : ℕ) → p < fec_bits → Meets p
  edited_new hx = fields_all Meets (edited_info hx) (edited_crc hx) (edited_mbas hx) (λ j h. edited_parity j)

-- ---- elements

-- bit i of element e of FEC blocks F
pub element_of_law : (F : ℕ → ℕ → ℕ) (e i : ℕ) → e % super_elements < fec_elements * fec_blocks → i < element_bits
    → element_of (super_of F) e i ≡ (F (element_fec e) (element_bits * element_local e + i) + o (element_bits * (e % super_elements) + i)) % 2
unfolding element_fec element_local
element_of_law F e i h l =
    let f = e / super_elements in
    let c = e % super_elements / fec_elements in
    let m = e % super_elements % fec_elements in
    let p : e ≡ super_elements * f + (fec_elements * c + m) = omega arith in
    let q : fec_elements * c + m ≡ e % super_elements = omega arith in
    ap (λ (x : ℕ). element_of (super_of F) x i) p ∙ element_fec_law F f c m i (omega arith) (omega arith) l
    ∙ ap (λ (x : ℕ). (F (fec_blocks * f + c) (element_bits * m + i) + o (element_bits * x + i)) % 2) q

pub edited_here : (b : ℕ) (bits parity : List ℕ) (F : ℕ → ℕ → ℕ) (t : ℕ) → t ≡ fec_of b → edited_fec b bits parity F t ≡ edited_bits b bits parity (F t)
unfolding edited_fec
edited_here b bits parity F t e = rw (eq-eqb t (fec_of b) e)

-- A NEW WORD: it is the word of the edited FEC block, for any capture
pub word_made : (N b : ℕ) (bits parity cap : List ℕ) (w crc : ℕ) (old : List ℕ) → listed N b w ≡ true
    → crc ≡ crc_change b bits (fec_in (word_in cap) (fec_of b)) → old ≡ word_in cap w → remade b bits parity crc w old ≡ edited_word N b bits parity cap w
unfolding remade new_element edited_word words_of
word_made N b bits parity cap w crc old h c q =
    let F = fec_in (word_in cap) in
    let l = listed_holding N b w h in
    let e = element_in w in
    let t = element_fec e in
    let d : crc ≡ crc_change b bits (F t) = c ∙ ap (λ (x : ℕ). crc_change b bits (F x)) (sym l.block) in
    rw (h, q, d)
    (coded_ext
    (λ i. new_bit b bits parity (crc_change b bits (F t)) (element_bits * element_local e + i) (element_bits * (e % super_elements) + i) (bit_at (word_in cap w) i))
    (slot_bit N (element_of (super_of (edited_fec b bits parity F))) w)
    (λ i m. sym (held_bit N (element_of (super_of (edited_fec b bits parity F))) w i l.element
    ∙ element_of_law (edited_fec b bits parity F) e i l.no_pad m
    ∙ ap (λ (g : ℕ → ℕ). (g (element_bits * element_local e + i) + o (element_bits * (e % super_elements) + i)) % 2) (edited_here b bits parity F t l.block)
    ∙ edited_new b bits parity (F t) (element_bits * (e % super_elements) + i) (bit_at (word_in cap w) i) (bit_of_lt 8 (word_in cap w) i)
    (element_bits * element_local e + i) (local_place_lt e i m)
    (received_at (word_in cap) e i l.no_pad m ∙ ap (λ (x : ℕ). (bit_at (word_in cap x) i + o (element_bits * (e % super_elements) + i)) % 2)
    (held N w l.element).back))))

-- ---- as the code makes it, eight bits at a time

-- a word whose first 119 bits are the new element's
pub made_anew : (b : ℕ) (bits parity : List ℕ) (crc w : ℕ) (old v : List ℕ)
    → Agree (bit_at v) (new_element b bits parity crc (element_in w) old) → code_word v ≡ remade b bits parity crc w old
unfolding remade
made_anew b bits parity crc w old v h = coded_ext (bit_at v) (new_element b bits parity crc (element_in w) old) h

-- ---- a field of an element

field_bits : (a : ℕ) (field : List ℕ) (e : ℕ) → Bits (field_element a field e)
unfolding field_element
field_bits a field e i = omega arith

-- the field cut out, and the sequence added
pub field_scrambled : (a : ℕ) (field scr u v : List ℕ) (e : ℕ) → scr ≡ one_period → u ≡ pack word_bytes (placed_at a (element_bits * element_local e) (bit_at field))
    → v ≡ pack word_bytes (added (bit_at u) (from_index (bit_at scr) (period_place e)))
    → v ≡ pack word_bytes (field_element a field e)
unfolding field_element
field_scrambled a field scr u v e s p q =
    let f = placed_at a (element_bits * element_local e) (bit_at field) in
    q ∙ packs_ext 8 word_bytes (added (bit_at u) (from_index (bit_at scr) (period_place e))) (field_element a field e)
    (λ i m. ap₂ (λ (x y : ℕ). (x + y) % 2)
    (ap (λ (t : List ℕ). bit_at t i) p ∙ bit_of-packs 8 word_bytes f i (placed_bits a (element_bits * element_local e) (bit_at field) (bit_of_lt 8 field)) m)
    (sequence_from scr (frame_place e) i s m))

-- put into the received word under its mask
pub field_masked : (a z : ℕ) (field : List ℕ) (e : ℕ) (old x r : List ℕ) → x ≡ pack word_bytes (field_element a field e)
    → r ≡ pack word_bytes (masked a z (element_bits * element_local e) (bit_at x) (bit_at old)) → r ≡ pack word_bytes (with_field a z field e old)
unfolding masked
field_masked a z field e old x r p q =
    q ∙ packs_ext 8 word_bytes (masked a z (element_bits * element_local e) (bit_at x) (bit_at old)) (with_field a z field e old)
    (λ i m. ap (λ (y : ℕ). cond (leb a (element_bits * element_local e + i) && ltb (element_bits * element_local e + i) z) y (bit_at old i))
    (ap (λ (t : List ℕ). bit_at t i) p ∙ bit_of-packs 8 word_bytes (field_element a field e) i (field_bits a field e) m))

pub with_bit : (a z : ℕ) (field : List ℕ) (e : ℕ) (old r : List ℕ) (i : ℕ) → r ≡ pack word_bytes (with_field a z field e old) → i < element_bits
    → bit_at r i ≡ with_field a z field e old i
with_bit a z field e old r i p h =
    ap (λ (t : List ℕ). bit_at t i) p
    ∙ bit_of-packs 8 word_bytes (with_field a z field e old) i
    (masked_bits a z (element_bits * element_local e) (field_element a field e) (bit_at old) (field_bits a field e) (bit_of_lt 8 old)) (omega arith)

-- bit i of it, at a place of the field
field_at : (a : ℕ) (field : List ℕ) (e i : ℕ) → a ≤ element_bits * element_local e + i
    → field_element a field e i ≡ (bit_at field (element_bits * element_local e + i - a) + o (frame_place e + i)) % 2
unfolding field_element placed_at
field_at a field e i h = rw (le-ltb (element_bits * element_local e + i) a h)

-- ---- the three kinds of element

-- in the information the client block is replaced
pub block_bit : (b : ℕ) (bits : List ℕ) (e : ℕ) (old : List ℕ) (i : ℕ)
    → with_field (block_from b) (block_from b + block_bits) bits e old i ≡ new_info_bit b bits (element_bits * element_local e + i) (frame_place e + i) (bit_at old i)
unfolding masked new_info_bit in_block
block_bit b bits e old i = by (leb (block_from b) p) (ltb p (block_from b + block_bits)) refl
  where
    p : ℕ
    p = element_bits * element_local e + i

    new : ℕ
    new = (bit_at bits (element_bits * element_local e + i - block_from b) + o (frame_place e + i)) % 2

    by : (t u : Bool) → leb (block_from b) (element_bits * element_local e + i) ≡ t → cond (t && u) (field_element (block_from b) bits e i) (bit_at old i) ≡ cond (t && u) new (bit_at old i)
    by false u h = refl
    by true false h = refl
    by true true h = field_at (block_from b) bits e i (leb-true (block_from b) (element_bits * element_local e + i) h)

module _ (b : ℕ) (bits parity : List ℕ) (crc e : ℕ) (old r : List ℕ) where
  abbrev Remakes : Type 0
  Remakes = Agree (bit_at r) (new_element b bits parity crc e old)

  pub block_made : element_local e < info_elements → r ≡ pack word_bytes (with_field (block_from b) (block_from b + block_bits) bits e old) → Remakes
  unfolding new_element
  block_made h p i l =
      with_bit (block_from b) (block_from b + block_bits) bits e old r i p l ∙ block_bit b bits e old i
      ∙ sym (new_info_law b bits parity crc (frame_place e + i) (bit_at old i) (element_bits * element_local e + i) (omega arith))

  -- an element that is all parity
  pub parity_made : info_elements < element_local e → r ≡ pack word_bytes (field_element parity_from parity e) → Remakes
  unfolding new_element
  parity_made h p i l =
      let j = element_bits * element_local e + i - parity_from in
      let q : element_bits * element_local e + i ≡ parity_from + j = omega arith in
      ap (λ (t : List ℕ). bit_at t i) p ∙ bit_of-packs 8 word_bytes (field_element parity_from parity e) i (field_bits parity_from parity e) (omega arith)
      ∙ field_at parity_from parity e i (omega arith)
      ∙ sym (ap (λ (x : ℕ). new_bit b bits parity crc x (frame_place e + i) (bit_at old i)) q ∙ new_parity_law b bits parity crc (frame_place e + i) (bit_at old i) j)

-- the CRC's change at the head of a word: four bytes of it, and zeros
crc_bits_law : (crc : ℕ) → Bits (crc_bit crc)
unfolding crc_bit
crc_bits_law crc i = cond_bit (ltb i crc_bits) (digit crc_bits crc i) 0 (digit_lt crc_bits crc i) (omega arith)

pub crc_byte : (crc k : ℕ) → crc < 2 ^ crc_bits → k < 4 → crc / 2 ^ (24 - 8 * k) % 256 ≡ byte_of (crc_bit crc) k
unfolding crc_bit
crc_byte crc k h l =
    let e : crc_bits - (8 * k + 8) ≡ 24 - 8 * k = omega arith in
    sym (num_ext 8 (crc_bit crc) (digit crc_bits crc) (8 * k) (8 * k) (λ j m. rw (lt-ltb (8 * k + j) crc_bits (omega arith)))
    ∙ num_part crc_bits 8 (8 * k) crc h (omega arith) ∙ ap (λ (x : ℕ). crc / 2 ^ x % 256) e)

twelve_zeros : tabulate {A = ℕ} 12 (λ k. 0) ≡ drop 4 (replicate word_bytes 0)
unfolding tabulate
twelve_zeros = refl

pub crc_placed : (crc : ℕ) → tabulate 4 (byte_of (crc_bit crc)) ++ drop 4 (replicate word_bytes 0) ≡ pack word_bytes (crc_bit crc)
unfolding crc_bit
crc_placed crc =
    ap (λ (s : List ℕ). tabulate 4 (byte_of (crc_bit crc)) ++ s) (sym (tabulate_ext 12 (λ k. byte_of (crc_bit crc) (4 + k)) (λ k. 0)
    (λ k h. num-zero 8 (crc_bit crc) (8 * (4 + k)) (λ j l. rw (le-ltb (8 * (4 + k) + j) crc_bits (omega arith)))) ∙ twelve_zeros))
    ∙ sym (tabulate_add 4 12 (byte_of (crc_bit crc)))

pub crc_summed : (crc : ℕ) (old u v : List ℕ) → u ≡ pack word_bytes (crc_bit crc) → v ≡ pack word_bytes (added (bit_at old) (bit_at u)) → v ≡ with_crc crc old
crc_summed crc old u v p q =
    q ∙ packs_ext 8 word_bytes (added (bit_at old) (bit_at u)) (added (bit_at old) (crc_bit crc))
    (λ i h. ap (λ (x : ℕ). (bit_at old i + x) % 2) (ap (λ (s : List ℕ). bit_at s i) p ∙ bit_of-packs 8 word_bytes (crc_bit crc) i (crc_bits_law crc) h))

-- the received word with the CRC's change added, bit by bit
crc_low : (crc : ℕ) (old : List ℕ) (i : ℕ) → i < crc_bits → bit_at (with_crc crc old) i ≡ (bit_at old i + digit crc_bits crc i) % 2
unfolding crc_bit
crc_low crc old i h =
    bit_of-packs 8 word_bytes (added (bit_at old) (crc_bit crc)) i (λ j. omega arith) (omega arith)
    ∙ ap (λ (t : Bool). (bit_at old i + cond t (digit crc_bits crc i) 0) % 2) (lt-ltb i crc_bits h)

crc_high : (crc : ℕ) (old : List ℕ) (i : ℕ) → crc_bits ≤ i → i < word_bits → bit_at (with_crc crc old) i ≡ bit_at old i
unfolding crc_bit
crc_high crc old i h l =
    bit_of-packs 8 word_bytes (added (bit_at old) (crc_bit crc)) i (λ j. omega arith) (omega arith)
    ∙ ap (λ (t : Bool). (bit_at old i + cond t (digit crc_bits crc i) 0) % 2) (le-ltb i crc_bits h)
    ∙ omega (arith, bit_of_lt 8 old i)

-- the element of CRC, MBAS and the first parity
module _ (b : ℕ) (bits parity : List ℕ) (crc e : ℕ) (old r : List ℕ) (h : element_local e ≡ info_elements) where
  abbrev tail_bits : ℕ → ℕ
  tail_bits = with_field parity_from fec_bits parity e (with_crc crc old)

  abbrev Same : ℕ → Type 0
  Same i = tail_bits i ≡ new_element b bits parity crc e old i

  tail_kept : (i : ℕ) → i < parity_from - info_bits → tail_bits i ≡ bit_at (with_crc crc old) i
  unfolding masked
  tail_kept i l = rw (lt-leb parity_from (element_bits * element_local e + i) (omega arith))

  tail_crc : (i : ℕ) → i < crc_bits → Same i
  unfolding new_element
  tail_crc i l =
      let p : element_bits * element_local e + i ≡ info_bits + i = omega arith in
      tail_kept i (omega arith) ∙ crc_low crc old i l
      ∙ sym (ap (λ (x : ℕ). new_bit b bits parity crc x (frame_place e + i) (bit_at old i)) p ∙ new_crc_law b bits parity crc (frame_place e + i) (bit_at old i) i l)

  tail_mbas : (i : ℕ) → crc_bits ≤ i → i < parity_from - info_bits → Same i
  unfolding new_element
  tail_mbas i m l =
      let p : element_bits * element_local e + i ≡ mbas_from + (i - crc_bits) = omega arith in
      tail_kept i l ∙ crc_high crc old i m (omega arith)
      ∙ sym (ap (λ (x : ℕ). new_bit b bits parity crc x (frame_place e + i) (bit_at old i)) p
      ∙ new_mbas b bits parity crc (frame_place e + i) (bit_at old i) (i - crc_bits) (omega arith))

  tail_parity : (i : ℕ) → parity_from - info_bits ≤ i → i < element_bits → Same i
  unfolding new_element masked
  tail_parity i m l =
      let j = element_bits * element_local e + i - parity_from in
      let p : element_bits * element_local e + i ≡ parity_from + j = omega arith in
      rw (le-leb parity_from (element_bits * element_local e + i) (omega arith), lt-ltb (element_bits * element_local e + i) fec_bits (omega arith))
      (field_at parity_from parity e i (omega arith)
      ∙ sym (ap (λ (x : ℕ). new_bit b bits parity crc x (frame_place e + i) (bit_at old i)) p ∙ new_parity_law b bits parity crc (frame_place e + i) (bit_at old i) j))

  pub tail_made : r ≡ pack word_bytes (with_field parity_from fec_bits parity e (with_crc crc old)) → Remakes b bits parity crc e old r
  tail_made p i l =
      with_bit parity_from fec_bits parity e (with_crc crc old) r i p l
      ∙ by_bound crc_bits i (tail_crc i) (λ m. by_bound (parity_from - info_bits) i (tail_mbas i m) (λ n. tail_parity i n l))

-- ---- what changes, element by element

-- x received, s of the sequence, y new: with s added twice
twice_added : (x s y f : ℕ) → f ≡ (x + s) % 2 → (x + (y + s) % 2) % 2 ≡ (f + y) % 2
twice_added x s y f e = omega arith

falls_out : (t : Bool) (x s y f : ℕ) → f ≡ (x + s) % 2 → (x + cond t ((y + s) % 2) x) % 2 ≡ (f + cond t y f) % 2
falls_out true x s y f e = twice_added x s y f e
falls_out false x s y f e = omega arith

-- an element of the client block, received and made anew: the scrambler falls out, and the changed bits are left
pub changed_bit : (b : ℕ) (bits capture old r v : List ℕ) (e i : ℕ) → e % super_elements < fec_elements * fec_blocks → element_fec e ≡ fec_of b → i < element_bits
    → old ≡ word_in capture (slot_of e) → r ≡ pack word_bytes (with_field (block_from b) (block_from b + block_bits) bits e old) → v ≡ pack word_bytes (added (bit_at old) (bit_at r))
    → bit_at v i ≡ change b bits (fec_in (word_in capture) (fec_of b)) (element_bits * element_local e + i)
unfolding change replaced new_info_bit
changed_bit b bits capture old r v e i n t l q p s =
    let f = fec_in (word_in capture) (fec_of b) in
    let x = element_bits * element_local e + i in
    ap (λ (y : List ℕ). bit_at y i) s ∙ bit_of-packs 8 word_bytes (added (bit_at old) (bit_at r)) i (λ j. omega arith) (omega arith)
    ∙ ap (λ (y : ℕ). (bit_at old i + y) % 2) (with_bit (block_from b) (block_from b + block_bits) bits e old r i p l ∙ block_bit b bits e old i)
    ∙ falls_out (in_block b x) (bit_at old i) (o (frame_place e + i)) (bit_at bits (x - block_from b)) (f x)
    (ap (λ (y : ℕ). fec_in (word_in capture) y x) (sym t) ∙ received_at (word_in capture) e i n l ∙ ap (λ (y : List ℕ). (bit_at y i + o (frame_place e + i)) % 2) (sym q))
