-- The edited capture is the capture of the edited input, byte for byte: what demand 3 rests on. Assumes nothing.
use Prim.Native.Nat.{ℕ, ◌+◌, ◌-◌, ◌*◌, ◌/◌, ◌%◌, ◌≤◌, ◌<◌}
use mathlib.Core.Bool.{Bool, true, false, cond, ◌&&◌, ◌||◌, and-false}
use mathlib.Core.Path.{◌≡◌, refl, sym, ap, ap₂, ◌∙◌}
use mathlib.Core.List.{List}
use native.Mathlib.Decide.{ℕ_discrete}
use native.Mathlib.Omega.{arith}
use borrow.Author.Tests.{lt-ltb, le-ltb, le-leb, lt-leb, eq-eqb, ne_eqb}
use lib.Arith.{lt_of_le-ne}
use lib.Dec.{ltb, leb, eqb}
use lib.ListN.{get_or}
use Rattle.bits.specs.Bits.{digit, bit_of, bit_at, Bits}
use Rattle.prelude.proofs.Common.{cond_bit, by_bound, clash, or_left}
use Rattle.prelude.proofs.Lists.{get_d_tabulate}
use Rattle.bits.proofs.Packing.{bit_of_lt, bit_of-packs}
use Rattle.bits.proofs.Xor.{digit_xor}
use Rattle.crc.proofs.Changes.{crc_rem_ext, crc_ext, crc_change_law}
use lib.Bits.{bit_xor}
use Rattle.scrambler.specs.Scrambler.{o}
use Rattle.hamming.proofs.Words.{coded_ext}
use Rattle.sizes.specs.Sizes.{block_bits, client_blocks, info_bits, crc_bits, mbas_bits, parity_bits, mbas_from, parity_from, parity_bytes, fec_bits, fec_blocks}
use Rattle.sizes.specs.Sizes.{element_bits, super_elements, fec_elements, info_length, parity_length, words}
use Rattle.line.specs.Fec.{fields, info_bit, parity_bit, block_crc, fec_bit}
use Rattle.line.specs.Frames.{super_of, element_of}
use Rattle.line.specs.Slots.{element_in, holds, slot_bit}
use Rattle.line_order.specs.Order.{word_in}
use Rattle.line.specs.Words.{words_of, fec_in}
use Rattle.line.proofs.FecLaws.{fields_info, fields_crc, fields_mbas, fields_parity, fields_all, fec_info, fec_crc, fec_mbas, fec_parity, fec_bits_law, info_bits_law}
use Rattle.line.proofs.FrameLaws.{super_pad}
use Rattle.line.proofs.SlotLaws.{held, held_bit, filler_bit}
use Rattle.line_order.proofs.OrderLaws.{laid_ext, word-laid}
use Rattle.code.specs.Code.{capture_of}
use Rattle.edit_spec.specs.Edit.{fec_of, block_from, in_block, replaced, change, crc_change, new_crc, kept_mbas, edited_bits, edited_fec, touched, element_fec}
use Rattle.edit_spec.specs.Edit.{element_local, listed, edited_word, edited_capture}
use Rattle.edit_spec.proofs.Listing.{holding_listed}
use Rattle.edit_spec.proofs.Remaking.{element_of_law, local_place_lt}
use Rattle.edit_spec.proofs.Changing.{change_bits}
use Rattle.demand_laws.specs.Demand3.{new_info, new_parity}
use Rattle.demand_laws.proofs.ReadLaws.{words_long, fec_read}

-- ---- the edited input, FEC block by FEC block

-- place i of FEC block t is in the client block exactly if its place in the whole information is
in_block_law : (b t i : ℕ) → i < info_bits
    → leb (block_bits * b) (info_bits * t + i) && ltb (info_bits * t + i) (block_bits * b + block_bits) ≡ eqb t (fec_of b) && in_block b i
unfolding in_block
in_block_law b t i h = by_block (ℕ_discrete t (fec_of b))
  where
    whole : block_bits * b ≡ info_bits * (b / client_blocks) + block_bits * (b % client_blocks)
    whole = omega arith

    here : (a c : ℕ) → t ≡ a → b / client_blocks ≡ a → block_bits * (b % client_blocks) ≡ c
        → leb (block_bits * b) (info_bits * t + i) && ltb (info_bits * t + i) (block_bits * b + block_bits) ≡ leb c i && ltb i (c + block_bits)
    here a c p q r =
        by_bound c i (λ l. rw (lt-leb (block_bits * b) (info_bits * t + i) (omega (arith, whole)), lt-leb c i l))
        (λ l. by_bound (c + block_bits) i
        (λ m. rw (
          le-leb (block_bits * b) (info_bits * t + i) (omega (arith, whole)),
          lt-ltb (info_bits * t + i) (block_bits * b + block_bits)
              (omega (arith, whole)),
          le-leb c i l,
          lt-ltb i (c + block_bits) m,
        ))
        (λ m. rw (
          le-leb (block_bits * b) (info_bits * t + i) (omega (arith, whole)),
          le-ltb (info_bits * t + i) (block_bits * b + block_bits)
              (omega (arith, whole)),
          le-leb c i l,
          le-ltb i (c + block_bits) m,
        )))

    elsewhere : (t ≡ fec_of b → ⊥) → leb (block_bits * b) (info_bits * t + i) && ltb (info_bits * t + i) (block_bits * b + block_bits) ≡ false
    elsewhere ne =
        by_bound (fec_of b) t (λ l. rw (lt-leb (block_bits * b) (info_bits * t + i) (omega (arith, whole))))
        (λ l. let g : fec_of b < t = lt_of_le-ne l (λ e. ne (sym e)) in
        rw (le-ltb (info_bits * t + i) (block_bits * b + block_bits) (omega (arith, whole))) (and-false (leb (block_bits * b) (info_bits * t + i))))

    by_block : Dec (t ≡ fec_of b) → leb (block_bits * b) (info_bits * t + i) && ltb (info_bits * t + i) (block_bits * b + block_bits) ≡ eqb t
        (fec_of b) && (leb (block_from b) i && ltb i (block_from b + block_bits))
    by_block (yes e) = here (fec_of b) (block_from b) e refl refl ∙ rw (eq-eqb t (fec_of b) e)
    by_block (no ne) = elsewhere ne ∙ rw (ne_eqb t (fec_of b) ne)

module _ (N b : ℕ) (bits info : List ℕ) where
  abbrev new_bit : ℕ → ℕ
  new_bit j = cond (leb (block_bits * b) j && ltb j (block_bits * b + block_bits)) (bit_at bits (j - block_bits * b)) (bit_at info j)

  new_bits : Bits new_bit
  new_bits j = cond_bit (leb (block_bits * b) j && ltb j (block_bits * b + block_bits)) _ _ (bit_of_lt 8 bits (j - block_bits * b)) (bit_of_lt 8 info j)

  info_edit : (t i : ℕ) → t < fec_blocks * N → i < info_bits
      → info_bit (new_info N b bits info) t i ≡ cond (eqb t (fec_of b)) (replaced b bits (info_bit info t) i) (info_bit info t i)
  unfolding info_bit new_info replaced
  info_edit t i ht hi =
      bit_of-packs 8 (info_length N) new_bit (info_bits * t + i) new_bits (omega arith)
      ∙ rw (in_block_law b t i hi) (by (ℕ_discrete t (fec_of b)) (in_block b i))
    where
      at : (a : ℕ) → t ≡ a → b / client_blocks ≡ a → info_bits * t + i - block_bits * b ≡ i - block_bits * (b % client_blocks)
      at a p q = let whole : block_bits * b ≡ info_bits * (b / client_blocks) + block_bits * (b % client_blocks) = omega arith in omega arith

      by : Dec (t ≡ fec_of b) → (y : Bool)
          → cond (eqb t (fec_of b) && y) (bit_at bits (info_bits * t + i - block_bits * b)) (bit_at info (info_bits * t + i))
          ≡ cond (eqb t (fec_of b)) (cond y (bit_at bits (i - block_from b)) (bit_at info (info_bits * t + i))) (bit_at info (info_bits * t + i))
      by (yes e) y = rw (eq-eqb t (fec_of b) e, at (fec_of b) e refl)
      by (no ne) y = rw (ne_eqb t (fec_of b) ne)

module _ (N b : ℕ) (parity par : List ℕ) where
  abbrev new_byte : ℕ → ℕ
  new_byte k = cond (eqb (k / parity_bytes) (b / client_blocks)) (get_or parity (k % parity_bytes) 0) (get_or par k 0)

  parity_edit : (t j : ℕ) → t < fec_blocks * N → j < parity_bits
      → parity_bit (new_parity N b parity par) t j ≡ cond (eqb t (fec_of b)) (bit_at parity j) (parity_bit par t j)
  unfolding parity_bit new_parity bit_of
  parity_edit t j ht hj =
      let q : (parity_bits * t + j) / 8 ≡ parity_bytes * t + j / 8 = omega arith in
      let r : (parity_bits * t + j) % 8 ≡ j % 8 = omega arith in
      let d : (parity_bytes * t + j / 8) / parity_bytes ≡ t = omega arith in
      let m : (parity_bytes * t + j / 8) % parity_bytes ≡ j / 8 = omega arith in
      rw (q, r, get_d_tabulate 0 (parity_length N) new_byte (parity_bytes * t + j / 8) (omega arith), d, m) (by (eqb t (fec_of b)))
    where
      by : (x : Bool) → digit 8 (cond x (get_or parity (j / 8) 0) (get_or par (parity_bytes * t + j / 8) 0)) (j % 8)
          ≡ cond x (digit 8 (get_or parity (j / 8) 0) (j % 8)) (digit 8 (get_or par (parity_bytes * t + j / 8) 0) (j % 8))
      by true = refl
      by false = refl

-- ---- the FEC block of the edited input is the edited FEC block

edit_twice : (a r : ℕ) → a < 2 → r < 2 → (a + (a + r) % 2) % 2 ≡ r
edit_twice a r ha hr = omega arith

replaced_bit : (b : ℕ) (bits : List ℕ) (f g : ℕ → ℕ) (i : ℕ) → f i ≡ g i → replaced b bits f i ≡ replaced b bits g i
unfolding replaced
replaced_bit b bits f g i e = rw e

replaced_lt : (b : ℕ) (bits : List ℕ) (f : ℕ → ℕ) (i : ℕ) → f i < 2 → replaced b bits f i < 2
unfolding replaced
replaced_lt b bits f i h = cond_bit (in_block b i) _ _ (bit_of_lt 8 bits (i - block_from b)) h

module _ (N m0 b : ℕ) (bits parity info par : List ℕ) where
  abbrev F : ℕ → ℕ → ℕ
  F = fec_bit m0 info par

  abbrev info' : List ℕ
  info' = new_info N b bits info

  abbrev par' : List ℕ
  par' = new_parity N b parity par

  abbrev F' : ℕ → ℕ → ℕ
  F' = fec_bit m0 info' par'

  module _ (t : ℕ) (ht : t < fec_blocks * N) where
    -- its own block
    module _ (e : t ≡ fec_of b) where
      here_info : (i : ℕ) → i < info_bits → info_bit info' t i ≡ replaced b bits (F t) i
      here_info i h =
          info_edit N b bits info t i ht h ∙ rw (eq-eqb t (fec_of b) e) (replaced_bit b bits (info_bit info t) (F t) i (sym (fec_info m0 info par t i h)))

      here_change : (i : ℕ) → i < info_bits → info_bit info' t i ≡ (info_bit info t i + change b bits (F t) i) % 2
      unfolding change
      here_change i h =
          here_info i h ∙ sym (ap (λ (x : ℕ). (x + (F t i + replaced b bits (F t) i) % 2) % 2) (sym (fec_info m0 info par t i h))
          ∙ edit_twice (F t i) (replaced b bits (F t) i) (fec_bits_law m0 info par t i) (replaced_lt b bits (F t) i (fec_bits_law m0 info par t i)))

      here_crc : block_crc info' t ≡ bit_xor (block_crc info t) (crc_change b bits (F t))
      unfolding block_crc crc_change
      here_crc = crc_change_law info_bits (info_bit info t) (info_bit info' t) (change b bits (F t)) (info_bits_law info t) (change_bits b bits (F t)) here_change

      here : (i : ℕ) → i < fec_bits → F' t i ≡ edited_bits b bits parity (F t) i
      unfolding edited_bits kept_mbas new_crc
      here =
          fields_all (λ i. F' t i ≡ edited_bits b bits parity (F t) i)
          (λ i h. fec_info m0 info' par' t i h ∙ here_info i h ∙ sym (fields_info (replaced b bits (F t)) (new_crc b bits (F t)) (kept_mbas (F t))
          (bit_at parity) i h))
          (λ j h. fec_crc m0 info' par' t j h ∙ ap (λ (x : ℕ). digit crc_bits x j) here_crc ∙ digit_xor crc_bits (block_crc info t) (crc_change b bits (F t)) j
          ∙ ap (λ (x : ℕ). (x + digit crc_bits (crc_change b bits (F t)) j) % 2) (sym (fec_crc m0 info par t j h))
          ∙ sym (fields_crc (replaced b bits (F t)) (new_crc b bits (F t)) (kept_mbas (F t)) (bit_at parity) j h))
          (λ j h. fec_mbas m0 info' par' t j h ∙ sym (fec_mbas m0 info par t j h)
          ∙ sym (fields_mbas (replaced b bits (F t)) (new_crc b bits (F t)) (kept_mbas (F t)) (bit_at parity) j h))
          (λ j h. fec_parity m0 info' par' t j ∙ parity_edit N b parity par t j ht h ∙ rw (eq-eqb t (fec_of b) e)
          (sym (fields_parity (replaced b bits (F t)) (new_crc b bits (F t)) (kept_mbas (F t)) (bit_at parity) j)))

    -- another block
    module _ (ne : t ≡ fec_of b → ⊥) where
      there_info : (i : ℕ) → i < info_bits → info_bit info' t i ≡ info_bit info t i
      there_info i h = info_edit N b bits info t i ht h ∙ rw (ne_eqb t (fec_of b) ne)

      there_crc : block_crc info' t ≡ block_crc info t
      unfolding block_crc
      there_crc = crc_ext info_bits (info_bit info' t) (info_bit info t) there_info

      there : (i : ℕ) → i < fec_bits → F' t i ≡ F t i
      there =
          fields_all (λ i. F' t i ≡ F t i)
          (λ i h. fec_info m0 info' par' t i h ∙ there_info i h ∙ sym (fec_info m0 info par t i h))
          (λ j h. fec_crc m0 info' par' t j h ∙ ap (λ (x : ℕ). digit crc_bits x j) there_crc ∙ sym (fec_crc m0 info par t j h))
          (λ j h. fec_mbas m0 info' par' t j h ∙ sym (fec_mbas m0 info par t j h))
          (λ j h. fec_parity m0 info' par' t j ∙ parity_edit N b parity par t j ht h ∙ rw (ne_eqb t (fec_of b) ne) (sym (fec_parity m0 info par t j)))

    fec_by : Dec (t ≡ fec_of b) → (i : ℕ) → i < fec_bits → F' t i ≡ edited_fec b bits parity F t i
    unfolding edited_fec
    fec_by (yes e) i h = rw (eq-eqb t (fec_of b) e) (here e i h)
    fec_by (no ne) i h = rw (ne_eqb t (fec_of b) ne) (there ne i h)

  -- THE EDIT, in an FEC block: CRC and all
  pub fec_edit : (t i : ℕ) → t < fec_blocks * N → i < fec_bits → F' t i ≡ edited_fec b bits parity F t i
  fec_edit t i ht h = fec_by t ht (ℕ_discrete t (fec_of b)) i h

-- ---- only the bits of an FEC block count

module _ (b : ℕ) (bits parity : List ℕ) (f g : ℕ → ℕ) (same : (i : ℕ) → i < fec_bits → f i ≡ g i) where
  change_same : (i : ℕ) → i < info_bits → change b bits f i ≡ change b bits g i
  unfolding change
  change_same i h = ap₂ (λ (x y : ℕ). (x + y) % 2) (same i (omega arith)) (replaced_bit b bits f g i (same i (omega arith)))

  crc_same : crc_change b bits f ≡ crc_change b bits g
  unfolding crc_change
  crc_same = crc_rem_ext 0 (change b bits f) (change b bits g) info_bits change_same

  pub edited_ext : (i : ℕ) → i < fec_bits → edited_bits b bits parity f i ≡ edited_bits b bits parity g i
  unfolding edited_bits kept_mbas new_crc
  edited_ext =
      fields_all (λ i. edited_bits b bits parity f i ≡ edited_bits b bits parity g i)
      (λ i h. at_info f i h ∙ replaced_bit b bits f g i (same i (omega arith)) ∙ sym (at_info g i h))
      (λ j h. at_crc f j h ∙ ap₂ (λ (x y : ℕ). (x + digit crc_bits y j) % 2) (same (info_bits + j) (omega arith)) crc_same ∙ sym (at_crc g j h))
      (λ j h. at_mbas f j h ∙ same (mbas_from + j) (omega arith) ∙ sym (at_mbas g j h))
      (λ j h. at_parity f j ∙ sym (at_parity g j))
    where
      at_info : (h : ℕ → ℕ) (i : ℕ) → i < info_bits → fields (replaced b bits h) (new_crc b bits h) (kept_mbas h) (bit_at parity) i ≡ replaced b bits h i
      at_info h = fields_info (replaced b bits h) (new_crc b bits h) (kept_mbas h) (bit_at parity)

      at_crc : (h : ℕ → ℕ) (j : ℕ) → j < crc_bits → fields (replaced b bits h) (new_crc b bits h) (kept_mbas h) (bit_at parity)
          (info_bits + j) ≡ new_crc b bits h j
      at_crc h = fields_crc (replaced b bits h) (new_crc b bits h) (kept_mbas h) (bit_at parity)

      at_mbas : (h : ℕ → ℕ) (j : ℕ) → j < mbas_bits → fields (replaced b bits h) (new_crc b bits h) (kept_mbas h) (bit_at parity) (mbas_from + j) ≡ h
          (mbas_from + j)
      at_mbas h = fields_mbas (replaced b bits h) (new_crc b bits h) (kept_mbas h) (bit_at parity)

      at_parity : (h : ℕ → ℕ) (j : ℕ) → fields (replaced b bits h) (new_crc b bits h) (kept_mbas h) (bit_at parity) (parity_from + j) ≡ bit_at parity j
      at_parity h = fields_parity (replaced b bits h) (new_crc b bits h) (kept_mbas h) (bit_at parity)

pub edited_fec_ext : (b : ℕ) (bits parity : List ℕ) (F G : ℕ → ℕ → ℕ) (t : ℕ) → ((i : ℕ) → i < fec_bits → F t i ≡ G t i)
    → (i : ℕ) → i < fec_bits → edited_fec b bits parity F t i ≡ edited_fec b bits parity G t i
unfolding edited_fec
edited_fec_ext b bits parity F G t same i h = by (eqb t (fec_of b))
  where
    by : (x : Bool) → cond x (edited_bits b bits parity (F t)) (F t) i ≡ cond x (edited_bits b bits parity (G t)) (G t) i
    by true = edited_ext b bits parity (F t) (G t) same i h
    by false = same i h

-- ---- a place that is not touched keeps its bit

block_untouched : (b : ℕ) (bits parity : List ℕ) (f : ℕ → ℕ) (i : ℕ) → i < fec_bits → touched b i ≡ false → edited_bits b bits parity f i ≡ f i
unfolding edited_bits kept_mbas touched replaced
block_untouched b bits parity f =
    fields_all (λ i. touched b i ≡ false → edited_bits b bits parity f i ≡ f i)
    (λ i h e. fields_info (replaced b bits f) (new_crc b bits f) (kept_mbas f) (bit_at parity) i h
    ∙ rw (or_left (in_block b i) (leb info_bits i && ltb i mbas_from) (or_left (in_block b i || (leb info_bits i && ltb i mbas_from)) (leb parity_from i) e)))
    (λ j h e. absurd (clash (in_crc_law j h) e))
    (λ j h e. fields_mbas (replaced b bits f) (new_crc b bits f) (kept_mbas f) (bit_at parity) j h)
    (λ j h e. absurd (clash (in_parity_law j) e))
  where
    or_true : (x y : Bool) → x || true || y ≡ true
    or_true true y = refl
    or_true false y = refl

    or_last : (x y : Bool) → x || y || true ≡ true
    or_last true y = refl
    or_last false true = refl
    or_last false false = refl

    in_crc_law : (j : ℕ) → j < crc_bits → in_block b (info_bits + j) || (leb info_bits (info_bits + j) && ltb (info_bits + j) mbas_from) || leb parity_from
        (info_bits + j) ≡ true
    in_crc_law j h = rw (le-leb info_bits (info_bits + j) (omega arith), lt-ltb (info_bits + j) mbas_from (omega arith))
        (or_true (in_block b (info_bits + j)) (leb parity_from (info_bits + j)))

    in_parity_law : (j : ℕ) → in_block b (parity_from + j) || (leb info_bits (parity_from + j) && ltb (parity_from + j) mbas_from) || leb parity_from
        (parity_from + j) ≡ true
    in_parity_law j = rw (le-leb parity_from (parity_from + j) (omega arith))
        (or_last (in_block b (parity_from + j)) (leb info_bits (parity_from + j) && ltb (parity_from + j) mbas_from))

-- ---- words whose elements have equal bits are equal

pad_bit : (F : ℕ → ℕ → ℕ) (e i : ℕ) → fec_elements * fec_blocks ≤ e % super_elements
    → element_of (super_of F) e i ≡ (0 + o (element_bits * (e % super_elements) + i)) % 2
unfolding element_of
pad_bit F e i h = rw (super_pad F (e / super_elements) (element_bits * (e % super_elements) + i) (omega arith))

module _ (N : ℕ) (F G : ℕ → ℕ → ℕ) (w : ℕ)
    (same : holds N w ≡ true → element_in w % super_elements < fec_elements * fec_blocks → (i : ℕ) → i < element_bits
    → F (element_fec (element_in w)) (element_bits * element_local (element_in w) + i) ≡ G (element_fec (element_in w))
    (element_bits * element_local (element_in w) + i)) where
  held_same : holds N w ≡ true → (i : ℕ) → i < element_bits → element_of (super_of F) (element_in w) i ≡ element_of (super_of G) (element_in w) i
  held_same h i l =
      let e = element_in w in
      by_bound (fec_elements * fec_blocks) (e % super_elements)
      (λ m. element_of_law F e i m l ∙ ap (λ (x : ℕ). (x + o (element_bits * (e % super_elements) + i)) % 2) (same h m i l) ∙ sym (element_of_law G e i m l))
      (λ m. pad_bit F e i m ∙ sym (pad_bit G e i m))

  slot_same : (b : Bool) → holds N w ≡ b → (i : ℕ) → i < element_bits → slot_bit N (element_of (super_of F)) w i ≡ slot_bit N (element_of (super_of G)) w i
  slot_same true h i l = held_bit N (element_of (super_of F)) w i h ∙ held_same h i l ∙ sym (held_bit N (element_of (super_of G)) w i h)
  slot_same false h i l = filler_bit N (element_of (super_of F)) w i h ∙ sym (filler_bit N (element_of (super_of G)) w i h)

  pub words_ext : words_of N F w ≡ words_of N G w
  unfolding words_of
  words_ext = coded_ext (slot_bit N (element_of (super_of F)) w) (slot_bit N (element_of (super_of G)) w) (slot_same (holds N w) refl)

fec_lt : (N e : ℕ) → e < super_elements * N → e % super_elements < fec_elements * fec_blocks → element_fec e < fec_blocks * N
unfolding element_fec
fec_lt N e h m = omega arith

-- ---- the theorem

module _ (N m0 b : ℕ) (bits parity info par : List ℕ) where
  abbrev old : ℕ → ℕ → ℕ
  old = fec_bit m0 info par

  abbrev new : ℕ → ℕ → ℕ
  new = fec_bit m0 (new_info N b bits info) (new_parity N b parity par)

  abbrev cap : List ℕ
  cap = capture_of N m0 info par

  pub coded_words : (w : ℕ) → w < words N → word_in cap w ≡ words_of N old w
  unfolding capture_of
  coded_words w h = word-laid N (words_of N old) w h (words_long N old w)

  -- a listed word is made anew, and is the word of the edited input
  listed_word : (w : ℕ) → w < words N → words_of N (edited_fec b bits parity (fec_in (word_in cap))) w ≡ words_of N new w
  listed_word w h =
      words_ext N (edited_fec b bits parity (fec_in (word_in cap))) new w
      (λ p m i l. let e = element_in w in
      let ht = fec_lt N e (held N w p).below m in
      edited_fec_ext b bits parity (fec_in (word_in cap)) old (element_fec e)
      (λ j k. fec_read N old (word_in cap) coded_words (λ t. fec_bits_law m0 info par t) (element_fec e) j ht k) (element_bits * element_local e + i)
      (local_place_lt e i l)
      ∙ sym (fec_edit N m0 b bits parity info par (element_fec e) (element_bits * element_local e + i) ht (local_place_lt e i l)))

  -- a word that is not listed has no touched bit
  kept_bit : (w : ℕ) → listed N b w ≡ false → holds N w ≡ true → element_in w % super_elements < fec_elements * fec_blocks → element_fec (element_in w) ≡ fec_of b
      → (i : ℕ) → i < element_bits → (t : Bool) → touched b (element_bits * element_local (element_in w) + i) ≡ t → t ≡ false
  kept_bit w n p m q i l true e =
      absurd (clash (holding_listed N b w (record { element = p; no_pad = m; block = q; touch = record { bit = i; within = l; there = e } })) n)
  kept_bit w n p m q i l false e = refl

  kept_word : (w : ℕ) → listed N b w ≡ false → words_of N old w ≡ words_of N new w
  unfolding edited_fec
  kept_word w n =
      words_ext N old new w
      (λ p m i l. let e = element_in w in
      let t = element_fec e in
      let k = element_bits * element_local e + i in
      sym (fec_edit N m0 b bits parity info par t k (fec_lt N e (held N w p).below m) (local_place_lt e i l) ∙ by w n p m i l (ℕ_discrete t (fec_of b))))
    where
      by : (w : ℕ) → listed N b w ≡ false → holds N w ≡ true → element_in w % super_elements < fec_elements * fec_blocks → (i : ℕ) → i < element_bits
          → Dec (element_fec (element_in w) ≡ fec_of b)
          → cond (eqb (element_fec (element_in w)) (fec_of b)) (edited_bits b bits parity (old (element_fec (element_in w)))) (old (element_fec (element_in w)))
          (element_bits * element_local (element_in w) + i)
          ≡ old (element_fec (element_in w)) (element_bits * element_local (element_in w) + i)
      by w n p m i l (yes q) =
          rw (eq-eqb (element_fec (element_in w)) (fec_of b) q)
          (block_untouched b bits parity (old (element_fec (element_in w))) (element_bits * element_local (element_in w) + i) (local_place_lt (element_in w) i l)
          (kept_bit w n p m q i l _ refl))
      by w n p m i l (no q) = rw (ne_eqb (element_fec (element_in w)) (fec_of b) q)

  word_by_law : (w : ℕ) → w < words N → (t : Bool) → listed N b w ≡ t → cond t (words_of N (edited_fec b bits parity (fec_in (word_in cap))) w)
      (word_in cap w) ≡ words_of N new w
  word_by_law w h true e = listed_word w h
  word_by_law w h false e = coded_words w h ∙ kept_word w e

  -- the edited capture is the capture of the edited input
  pub edit_is_coding : edited_capture N b bits parity cap ≡ capture_of N m0 (new_info N b bits info) (new_parity N b parity par)
  unfolding edited_capture capture_of edited_word
  edit_is_coding = laid_ext N (edited_word N b bits parity cap) (words_of N new) (λ w h. word_by_law w h (listed N b w) refl)
