-- The bytes of a super frame: out of its elements, a byte at once, and into information and parity. Assumes nothing.
use Prim.Native.Nat.{ℕ, ◌+◌, ◌-◌, ◌*◌, ◌/◌, ◌%◌, ◌≤◌, ◌<◌}
use mathlib.Core.Path.{◌≡◌, sym, ap, ap₂, ◌∙◌}
use mathlib.Core.List.{List}
use native.Mathlib.Nat.{zero-add}
use native.Mathlib.Omega.{arith}
use borrow.Rule.Slice.PartMut.{put_mid}
use lib.ListN.{length, get_or}
use Rattle.prelude.specs.Lists.{tabulate, from_index}
use Rattle.bits.specs.Bits.{num, bit_at, byte_of, pack, Bits}
use Rattle.prelude.proofs.Common.{by_bound}
use Rattle.prelude.proofs.Lists.{get_d_tabulate, tabulate_ext, Filled, filled_block}
use Rattle.bits.proofs.Numbers.{num_ext, digit-num}
use Rattle.bits.proofs.Packing.{bit_of_lt, bit_of-packs}
use Rattle.scrambler.specs.Scrambler.{o}
use Rattle.scrambler.proofs.Rule.{o_lt}
use Rattle.scrambling.specs.Steps.{added_byte}
use Rattle.scrambling.proofs.Adding.{packs_added}
use Rattle.hamming.specs.Code.{joined}
use Rattle.hamming.proofs.Words.{joined_low, joined_high, joined_bit}
use Rattle.sizes.specs.Sizes.{info_bits, parity_bits, parity_from, fec_bits, info_bytes, parity_bytes, fec_blocks, super_bits, super_bytes, super_elements}
use Rattle.sizes.specs.Sizes.{element_bits, super_info_bytes, super_parity_bytes, word_bytes, word_bits, check_bits}
use Rattle.line.specs.Frames.{super_from, fec_from}
use Rattle.line.specs.Slots.{slot_of}
use Rattle.line.specs.Words.{element_from, super_in, fec_in}
use Rattle.read_spec.specs.Read.{repaired}
use Rattle.read_spec.specs.Steps.{sequence_bytes, sequence, frame_of, first_whole_byte, followed, received_in, info_in, parity_in}

-- ---- bits

pub super_lt : (W : ℕ → List ℕ) (f : ℕ) → Bits (super_in W f)
unfolding super_in super_from
super_lt W f k = omega arith

-- the bits of two words that follow each other
followed_low : (a b : List ℕ) (x : ℕ) → x < element_bits → bit_at (followed a b) x ≡ bit_at a x
followed_low a b x h =
    joined_bit (bit_at a) (num check_bits (bit_at b) 0) x (bit_of_lt 8 a) (omega arith) ∙ joined_low (bit_at a) (num check_bits (bit_at b) 0) x h

followed_high : (a b : List ℕ) (x : ℕ) → element_bits ≤ x → x < word_bits → bit_at (followed a b) x ≡ bit_at b (x - element_bits)
followed_high a b x l h =
    let q : x ≡ element_bits + (x - element_bits) = omega arith in
    joined_bit (bit_at a) (num check_bits (bit_at b) 0) x (bit_of_lt 8 a) h
    ∙ ap (joined (bit_at a) (num check_bits (bit_at b) 0)) q
    ∙ joined_high (bit_at a) (num check_bits (bit_at b) 0) (x - element_bits)
    ∙ digit-num check_bits (bit_at b) 0 (x - element_bits) (bit_of_lt 8 b) (omega arith)
    ∙ ap (bit_at b) (zero-add (x - element_bits))

-- ---- a super frame out of its elements

module _ (W : ℕ → List ℕ) (f l : ℕ) where
  abbrev pair : List ℕ
  pair = followed (W (slot_of (super_elements * f + l))) (W (slot_of (super_elements * f + (l + 1))))

  -- the 128 bits from the first bit of element l on: 119 of its word, nine of the next one's
  received_bit : (x : ℕ) → x < word_bits → bit_at pair x ≡ received_in W f (element_bits * l + x)
  unfolding received_in element_from
  received_bit x h = by_bound element_bits x low high
    where
      low : x < element_bits → bit_at pair x ≡ received_in W f (element_bits * l + x)
      low m =
          let p : (element_bits * l + x) / element_bits ≡ l = omega arith in
          let q : (element_bits * l + x) % element_bits ≡ x = omega arith in
          rw (p, q) (followed_low (W (slot_of (super_elements * f + l))) (W (slot_of (super_elements * f + (l + 1)))) x m)

      high : element_bits ≤ x → bit_at pair x ≡ received_in W f (element_bits * l + x)
      high m =
          let p : (element_bits * l + x) / element_bits ≡ l + 1 = omega arith in
          let q : (element_bits * l + x) % element_bits ≡ x - element_bits = omega arith in
          rw (p, q) (followed_high (W (slot_of (super_elements * f + l))) (W (slot_of (super_elements * f + (l + 1)))) x m h)

-- byte k of those that begin in element l, out of the bytes x of the element's word and the next one's
pub element_byte : (W : ℕ → List ℕ) (x : List ℕ) (f l n k : ℕ) → x ≡ pack word_bytes (from_index (bit_at (pair W f l)) (l % 8))
    → n ≡ first_whole_byte (l + 1) - first_whole_byte l → k < n
    → get_or x k 0 ≡ byte_of (received_in W f) (first_whole_byte l + k)
element_byte W x f l n k ex en h =
    ap (λ (s : List ℕ). get_or s k 0) ex ∙ get_d_tabulate 0 word_bytes (byte_of (from_index (bit_at (pair W f l)) (l % 8))) k (omega arith)
    ∙ num_ext 8 (from_index (bit_at (pair W f l)) (l % 8)) (received_in W f) (8 * k) (8 * (first_whole_byte l + k))
    (λ j m.
    let q : element_bits * l + (l % 8 + (8 * k + j)) ≡ 8 * (15 * l - l / 8 + k) + j = omega arith in
    received_bit W f l (l % 8 + (8 * k + j)) (omega arith) ∙ ap (received_in W f) q)

received_lt : (W : ℕ → List ℕ) (f : ℕ) → Bits (received_in W f)
unfolding received_in element_from
received_lt W f k = bit_of_lt 8 (W (slot_of (super_elements * f + k / element_bits))) (k % element_bits)

-- with the sequence added to them, the bytes of the super frame
pub frame_descrambled : (cap scr s : List ℕ) (f n : ℕ) → n ≡ super_bytes → scr ≡ sequence → s ≡ pack super_bytes (received_in (repaired cap) f)
    → tabulate n (added_byte s (from_index (bit_at scr) 0)) ≡ frame_of cap f
unfolding super_in super_from received_in
frame_descrambled cap scr s f n l p q =
    ap (λ (m : ℕ). tabulate m (added_byte s (from_index (bit_at scr) 0))) l
    ∙ packs_added super_bytes (received_in (repaired cap) f) o (from_index (bit_at scr) 0) s (received_lt (repaired cap) f) o_lt q
    (λ i h. ap (λ (t : List ℕ). bit_at t (0 + i)) p ∙ bit_of-packs 8 sequence_bytes o (0 + i) o_lt (omega arith) ∙ ap o (zero-add i))

-- ---- FEC blocks in a super frame

pub frame_bit : (cap : List ℕ) (f i : ℕ) → i < super_bits → bit_at (frame_of cap f) i ≡ super_in (repaired cap) f i
frame_bit cap f i h = bit_of-packs 8 super_bytes (super_in (repaired cap) f) i (super_lt (repaired cap) f) h

pub fec_at : (W : ℕ → List ℕ) (f b i : ℕ) → b < fec_blocks → fec_in W (fec_blocks * f + b) i ≡ super_in W f (fec_bits * b + i)
unfolding fec_in fec_from
fec_at W f b i h =
    let p : (fec_blocks * f + b) / fec_blocks ≡ f = omega arith in
    let q : (fec_blocks * f + b) % fec_blocks ≡ b = omega arith in
    rw (p, q)

pub frame_fec : (cap : List ℕ) (f b i : ℕ) → b < fec_blocks → i < fec_bits → bit_at (frame_of cap f) (fec_bits * b + i) ≡ fec_in (repaired cap) (fec_blocks * f + b) i
frame_fec cap f b i h l = frame_bit cap f (fec_bits * b + i) (omega arith) ∙ sym (fec_at (repaired cap) f b i h)

-- ---- information and parity

-- byte k of block b's, out of a super frame
pub info_byte : (s : List ℕ) (b k : ℕ) → k < info_bytes → byte_of (from_index (bit_at s) (fec_bits * b)) k ≡ byte_of (info_in s) (info_bytes * b + k)
unfolding info_in
info_byte s b k h =
    num_ext 8 (from_index (bit_at s) (fec_bits * b)) (info_in s) (8 * k) (8 * (info_bytes * b + k))
    (λ j m.
    let p : (8 * (info_bytes * b + k) + j) / info_bits ≡ b = omega arith in
    let q : (8 * (info_bytes * b + k) + j) % info_bits ≡ 8 * k + j = omega arith in
    rw (p, q))

pub parity_byte : (s : List ℕ) (b k : ℕ) → k < parity_bytes → byte_of (from_index (bit_at s) (fec_bits * b + parity_from)) k ≡ byte_of (parity_in s) (parity_bytes * b + k)
unfolding parity_in
parity_byte s b k h =
    num_ext 8 (from_index (bit_at s) (fec_bits * b + parity_from)) (parity_in s) (8 * k) (8 * (parity_bytes * b + k))
    (λ j m.
    let p : (8 * (parity_bytes * b + k) + j) / parity_bits ≡ b = omega arith in
    let q : (8 * (parity_bytes * b + k) + j) % parity_bits ≡ 8 * k + j = omega arith in
    rw (p, q) (ap (bit_at s) (omega arith)))

-- bit j of the information, and of the parity, of FEC blocks with the bits F
abbrev pub info_all : (ℕ → ℕ → ℕ) → ℕ → ℕ
info_all F j = F (j / info_bits) (j % info_bits)

abbrev pub parity_all : (ℕ → ℕ → ℕ) → ℕ → ℕ
parity_all F j = F (j / parity_bits) (parity_from + j % parity_bits)

-- byte k of super frame f's, in the whole
pub info_whole : (cap s : List ℕ) (f k : ℕ) → s ≡ frame_of cap f → k < super_info_bytes
    → byte_of (info_in s) k ≡ byte_of (info_all (fec_in (repaired cap))) (super_info_bytes * f + k)
unfolding info_in
info_whole cap s f k e h =
    ap (λ (l : List ℕ). byte_of (info_in l) k) e
    ∙ num_ext 8 (info_in (frame_of cap f)) (info_all (fec_in (repaired cap))) (8 * k) (8 * (super_info_bytes * f + k))
    (λ j m.
    let p : (8 * (super_info_bytes * f + k) + j) / info_bits ≡ 5 * f + (8 * k + j) / info_bits = omega arith in
    let q : (8 * (super_info_bytes * f + k) + j) % info_bits ≡ (8 * k + j) % info_bits = omega arith in
    frame_fec cap f ((8 * k + j) / info_bits) ((8 * k + j) % info_bits) (omega arith) (omega arith)
    ∙ sym (ap₂ (fec_in (repaired cap)) p q))

pub parity_whole : (cap s : List ℕ) (f k : ℕ) → s ≡ frame_of cap f → k < super_parity_bytes
    → byte_of (parity_in s) k ≡ byte_of (parity_all (fec_in (repaired cap))) (super_parity_bytes * f + k)
unfolding parity_in
parity_whole cap s f k e h =
    ap (λ (l : List ℕ). byte_of (parity_in l) k) e
    ∙ num_ext 8 (parity_in (frame_of cap f)) (parity_all (fec_in (repaired cap))) (8 * k) (8 * (super_parity_bytes * f + k))
    (λ j m.
    let p : (8 * (super_parity_bytes * f + k) + j) / parity_bits ≡ 5 * f + (8 * k + j) / parity_bits = omega arith in
    let q : (8 * (super_parity_bytes * f + k) + j) % parity_bits ≡ (8 * k + j) % parity_bits = omega arith in
    frame_fec cap f ((8 * k + j) / parity_bits) (parity_from + (8 * k + j) % parity_bits) (omega arith) (omega arith)
    ∙ sym (ap₂ (λ (x y : ℕ). fec_in (repaired cap) x (parity_from + y)) p q))

-- ---- a part that a callee filled

-- the callee's m elements are h, which is f from a on
pub bytes_filled : {a : ℕ} {f : ℕ → ℕ} {d out : List ℕ} (k e : ℕ) {ys : List ℕ} (m : ℕ) (h : ℕ → ℕ) → Filled a f d out → e ≡ a + k → e ≤ length d → m ≡ k
    → ys ≡ tabulate m h
    → ((j : ℕ) → j < k → h j ≡ f (a + j)) → Filled e f d (put_mid a k out ys)
bytes_filled {a} {f} k e m h i p l q y each =
    filled_block k e i p l (y ∙ ap (λ (n : ℕ). tabulate n h) q ∙ tabulate_ext k h (λ j. f (a + j)) each)
