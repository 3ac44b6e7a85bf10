-- Which bits an element holds before it is scrambled: pad, information, CRC and MBAS, or parity. Assumes nothing.
use Prim.Native.Nat.{ℕ, ◌+◌, ◌-◌, ◌*◌, ◌/◌, ◌%◌, ◌≤◌, ◌<◌}
use mathlib.Core.Path.{◌≡◌, sym, ap, ◌∙◌}
use mathlib.Core.List.{List}
use native.Mathlib.Nat.{add_assoc}
use native.Mathlib.Omega.{arith}
use lib.ListN.{length, take, drop, replicate}
use Rattle.prelude.specs.Lists.{from_index}
use Rattle.bits.specs.Bits.{bit_at, pack, Bits, Bytes}
use Rattle.bits.proofs.Packing.{bit_of_lt, bit_of-packs, bit_of_part, part_bytes, bit_of_zeros}
use Rattle.prelude.proofs.Common.{by_bound}
use Rattle.prelude.proofs.Lists.{part_long}
use Rattle.crc.specs.Crc.{crc_of}
use Rattle.crc.specs.Steps.{entries, crc_by}
use Rattle.crc.proofs.Changes.{crc_ext}
use Rattle.crc.proofs.Bytewise.{bytes_crc}
use Rattle.sizes.specs.Sizes.{info_bits, crc_bits, mbas_from, parity_bits, parity_from, fec_bits, element_bits, super_elements, fec_elements, info_bytes, info_elements}
use Rattle.sizes.specs.Sizes.{word_bytes, fec_blocks}
use Rattle.line.specs.Fec.{fec_bit, info_bit, parity_bit, block_crc, mbas_of}
use Rattle.line.specs.Frames.{super_of}
use Rattle.line.proofs.FecLaws.{fec_info, fec_crc, fec_mbas, fec_parity}
use Rattle.line.proofs.FrameLaws.{super_pad, super_fec}
use Rattle.scrambling.specs.Steps.{Agree}
use Rattle.code.specs.Steps.{guard_bits, plain_bit, tail_bit}
use Rattle.code.proofs.Tails.{tail_low, tail_mid, tail_high, tail_bits_law}

-- ---- which layer an element's bits are of

pub plain_pad : (F : ℕ → ℕ → ℕ) (e : ℕ) → fec_elements * fec_blocks ≤ e % super_elements → Agree (bit_at (replicate word_bytes 0)) (plain_bit F e)
unfolding plain_bit
plain_pad F e h i l = bit_of_zeros 8 word_bytes i ∙ sym (super_pad F (e / super_elements) (element_bits * (e % super_elements) + i) (omega arith))

-- the FEC block and the local element of element e
pub plain_fec : (F : ℕ → ℕ → ℕ) (e i : ℕ) → e % super_elements < fec_elements * fec_blocks → i < element_bits
    → plain_bit F e i ≡ F (5 * (e / super_elements) + e % super_elements / fec_elements) (element_bits * (e % super_elements % fec_elements) + i)
unfolding plain_bit
plain_fec F e i h l =
    let b = e % super_elements / fec_elements in
    let m = e % super_elements % fec_elements in
    let p : element_bits * (e % super_elements) + i ≡ fec_bits * b + (element_bits * m + i) = omega arith in
    ap (super_of F (e / super_elements)) p ∙ super_fec F (e / super_elements) b (element_bits * m + i) (omega arith) (omega arith)

-- ---- the three kinds of elements of FEC block t

module _ (m0 : ℕ) (info par : List ℕ) (t : ℕ) where
  pub held_info : (m i : ℕ) → m < info_elements → i < element_bits → fec_bit m0 info par t (element_bits * m + i) ≡ from_index (bit_at info)
      (info_bits * t + element_bits * m) i
  unfolding info_bit
  held_info m i h l = fec_info m0 info par t (element_bits * m + i) (omega arith) ∙ ap (bit_at info) (sym (add_assoc (info_bits * t) (element_bits * m) i))

  abbrev tail : ℕ → ℕ
  tail = tail_bit (block_crc info t) (mbas_of m0 t) (from_index (bit_at par) (parity_bits * t))

  -- behind the CRC and the MBAS
  after : (j : ℕ) → fec_bit m0 info par t (parity_from + j) ≡ tail (guard_bits + j)
  unfolding parity_bit
  after j = fec_parity m0 info par t j ∙ sym (tail_high (block_crc info t) (mbas_of m0 t) (from_index (bit_at par) (parity_bits * t)) j)

  pub held_tail : (i : ℕ) → i < element_bits → fec_bit m0 info par t (info_bits + i) ≡ tail i
  held_tail i l =
      by_bound crc_bits i
      (λ h. fec_crc m0 info par t i h ∙ sym (tail_low (block_crc info t) (mbas_of m0 t) (from_index (bit_at par) (parity_bits * t)) i h))
      (λ g. by_bound guard_bits i
      (λ h. let p : info_bits + i ≡ mbas_from + (i - crc_bits) = omega arith in
      let q : crc_bits + (i - crc_bits) ≡ i = omega arith in
      ap (fec_bit m0 info par t) p ∙ fec_mbas m0 info par t (i - crc_bits) (omega arith)
      ∙ sym (tail_mid (block_crc info t) (mbas_of m0 t) (from_index (bit_at par) (parity_bits * t)) (i - crc_bits) (omega arith)) ∙ ap tail q)
      (λ k. let p : info_bits + i ≡ parity_from + (i - guard_bits) = omega arith in
      let q : guard_bits + (i - guard_bits) ≡ i = omega arith in
      ap (fec_bit m0 info par t) p ∙ after (i - guard_bits) ∙ ap tail q))

  pub held_parity : (m i : ℕ) → info_elements < m → fec_bit m0 info par t (element_bits * m + i) ≡ from_index (bit_at par)
      (parity_bits * t + (element_bits * (m - info_elements) - guard_bits)) i
  unfolding parity_bit
  held_parity m i h =
      let p : element_bits * m + i ≡ parity_from + (element_bits * (m - info_elements) - guard_bits + i) = omega arith in
      ap (fec_bit m0 info par t) p ∙ fec_parity m0 info par t (element_bits * (m - info_elements) - guard_bits + i)
      ∙ ap (bit_at par) (sym (add_assoc (parity_bits * t) (element_bits * (m - info_elements) - guard_bits) i))

-- ---- from what a callee packed

agree_packed : (r : List ℕ) (g h : ℕ → ℕ) → Bits g → r ≡ pack word_bytes g → Agree g h → Agree (bit_at r) h
agree_packed r g h b e a i l = ap (λ (s : List ℕ). bit_at s i) e ∙ bit_of-packs 8 word_bytes g i b (omega arith) ∙ a i l

pub from_bits_law : (s : List ℕ) (a : ℕ) → Bits (from_index (bit_at s) a)
from_bits_law s a i = bit_of_lt 8 s (a + i)

module _ (m0 : ℕ) (info par r : List ℕ) (e : ℕ) (no_pad : e % super_elements < fec_elements * fec_blocks) where
  abbrev block : ℕ
  block = 5 * (e / super_elements) + e % super_elements / fec_elements

  abbrev local : ℕ
  local = e % super_elements % fec_elements

  abbrev F : ℕ → ℕ → ℕ
  F = fec_bit m0 info par

  pub plain_info : local < info_elements → r ≡ pack word_bytes (from_index (bit_at info) (info_bits * block + element_bits * local)) → Agree (bit_at r) (plain_bit F e)
  plain_info h p =
      agree_packed r (from_index (bit_at info) (info_bits * block + element_bits * local)) (plain_bit F e) (from_bits_law info (info_bits * block + element_bits * local)) p
      (λ i l. sym (plain_fec F e i no_pad l ∙ held_info m0 info par block local i h l))

  pub plain_tail : (crc mbas : ℕ) → local ≡ info_elements → crc ≡ block_crc info block → mbas ≡ mbas_of m0 block
      → r ≡ pack word_bytes (tail_bit crc mbas (from_index (bit_at par) (parity_bits * block))) → Agree (bit_at r) (plain_bit F e)
  plain_tail crc mbas h pc pm p =
      agree_packed r (tail_bit crc mbas (from_index (bit_at par) (parity_bits * block))) (plain_bit F e)
      (tail_bits_law crc mbas (from_index (bit_at par) (parity_bits * block)) (from_bits_law par (parity_bits * block))) p
      (λ i l. let q : element_bits * local + i ≡ info_bits + i = omega arith in
      rw (pc, pm) (sym (plain_fec F e i no_pad l ∙ ap (F block) q ∙ held_tail m0 info par block i l)))

  pub plain_parity : info_elements < local → r ≡ pack word_bytes (from_index (bit_at par) (parity_bits * block + (element_bits * (local - info_elements) - guard_bits)))
      → Agree (bit_at r) (plain_bit F e)
  plain_parity h p =
      agree_packed r (from_index (bit_at par) (parity_bits * block + (element_bits * (local - info_elements) - guard_bits))) (plain_bit F e)
      (from_bits_law par (parity_bits * block + (element_bits * (local - info_elements) - guard_bits))) p
      (λ i l. sym (plain_fec F e i no_pad l ∙ held_parity m0 info par block local i h))

-- ---- the CRC of a block's part of the information

pub block_part : (table info : List ℕ) (t n : ℕ) → table ≡ entries → Bytes info → info_bytes * (t + 1) ≤ length info → n ≡ info_bytes
    → crc_by table (take n (drop (info_bytes * t) info)) ≡ block_crc info t
unfolding block_crc info_bit
block_part table info t n e b h p =
    let part = take n (drop (info_bytes * t) info) in
    let long : 8 * length part ≡ info_bits = rw (part_long (info_bytes * t) n info (omega arith)) (omega arith) in
    bytes_crc table part e (part_bytes info (info_bytes * t) n b)
    ∙ ap (λ (m : ℕ). crc_of m (bit_at part)) long
    ∙ crc_ext info_bits (bit_at part) (λ i. bit_at info (info_bits * t + i))
    (λ i l. let q : 8 * (info_bytes * t) + i ≡ info_bits * t + i = omega arith in bit_of_part 8 info (info_bytes * t) n i (omega arith) ∙ ap (bit_at info) q)
