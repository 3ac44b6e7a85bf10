-- What the small functions make of bytes: nine bits, thirty-two bits, copied bits and their CRC. Assumes nothing.
use Prim.Native.Nat.{ℕ, ◌+◌, ◌*◌, ◌/◌, ◌%◌, ◌≤◌, ◌<◌}
use mathlib.Core.Path.{◌≡◌, refl, sym, ap, ap₂, ◌∙◌}
use mathlib.Core.List.{List, [], ◌∷◌, ◌++◌}
use mathlib.Core.Logic.{⊎_elim}
use native.Mathlib.Nat.{add_assoc, eq-or-lt_of_le}
use native.Mathlib.Omega.{arith}
use lib.Dec.{lit<}
use lib.ListN.{length, get_or, take, drop, length-take, length-drop, length-append, get_or-eq_default}
use Rattle.std.proofs.lemmas.List.{get_or-take}
use Rattle.sizes.specs.Sizes.{word_bytes, check_bits}
use Rattle.prelude.specs.Lists.{tabulate, from_index}
use Rattle.bits.specs.Bits.{num, digit, bit_of, bit_at, byte_of, pack, Bits, Bytes}
use Rattle.prelude.proofs.Common.{by_bound}
use Rattle.prelude.proofs.Lists.{get_d_tabulate, get_d_past, Filled, filled_at, filled_here, is_table}
use Rattle.bits.proofs.Numbers.{num_ext, num_lt, num_split, num_front}
use Rattle.bits.proofs.Packing.{bit_of_lt, num-bit_of, bit_of-packs, length-packs, packs_ext}
use Rattle.crc.specs.Crc.{crc_of}
use Rattle.crc.specs.Steps.{entries, crc_by}
use Rattle.crc.proofs.Bytewise.{bytes_crc}
use Rattle.crc.proofs.Changes.{crc_ext}
use Rattle.hamming.specs.declared.Repaired.{Repaired}
use Rattle.hamming.specs.Repair.{repair_of}
use Rattle.hamming.proofs.Repairs.{none_kept}
use Rattle.hamming.specs.Code.{checks_of}
use Rattle.line_order.specs.Order.{word_in}
use Rattle.read_spec.specs.Read.{repaired}

-- the first nine bits of b
pub nine_of : (b : List ℕ) → Bytes b → get_or b 0 0 * 2 + get_or b 1 0 / 128 ≡ num check_bits (bit_at b) 0
nine_of b h =
    ap₂ (λ (x y : ℕ). x * 2 + y) (sym (num-bit_of 8 b 0 (h 0)))
    (ap (λ (x : ℕ). x / 128) (sym (num-bit_of 8 b 1 (h 1))) ∙ num_front 1 7 (bit_at b) 8 (bit_of_lt 8 b))
    ∙ sym (num_split 8 1 (bit_at b) 0)

-- the bits of a word from bit i on, out of its bytes and one of zeros
pub zero_byte_behind : (v w d : List ℕ) (i : ℕ) → i < 8 → length v ≡ word_bytes → Filled word_bytes (λ k. get_or v k 0) d w → get_or d word_bytes 0 ≡ 0
    → pack word_bytes (from_index (bit_at w) i) ≡ pack word_bytes (from_index (bit_at v) i)
unfolding bit_of
zero_byte_behind v w d i h len e z =
    packs_ext 8 word_bytes (from_index (bit_at w) i) (from_index (bit_at v) i) (λ j l. ap (λ (x : ℕ). digit 8 x ((i + j) % 8)) (by ((i + j) / 8) (omega arith)))
  where
    by : (k : ℕ) → k ≤ word_bytes → get_or w k 0 ≡ get_or v k 0
    by k m =
        ⊎_elim (λ q. rw q (filled_here 0 e ∙ z ∙ sym (get_or-eq_default v 0 (omega arith)))) (λ l. filled_at 0 e l) (eq-or-lt_of_le m)

pub take_all : {k : ℕ} (v : List ℕ) → length v ≡ k → take k v ≡ v
take_all v e = rw (← e) (every v)
  where
    every : (s : List ℕ) → take (length s) s ≡ s
    every [] = refl
    every (x ∷ s) = ap (λ (l : List ℕ). x ∷ l) (every s)

-- the first k elements of v, copied to the front of a buffer
pub front_copied : (k : ℕ) (v : List ℕ) {d front : List ℕ} → front ≡ take k v → k ≤ length v → k ≤ length d
    → Filled k (λ j. get_or v j 0) d (front ++ drop k d)
front_copied k v {d} {front} e n h =
    let long : length front ≡ k = rw e (simp length-take (omega arith)) in
    let t : front ≡ tabulate k (λ j. get_or v j 0) = is_table 0 k (λ j. get_or v j 0) front long (λ j l. rw e (get_or-take k v j 0 l)) in
    record { within = h; len = simp (length-append, length-drop) (omega (arith, long)); is = ap (λ (l : List ℕ). l ++ drop k d) t }

-- thirty-two bits, out of the first four bytes of the bits from a on
pub long_of : (f : ℕ → ℕ) (a : ℕ) (w : List ℕ) → w ≡ pack word_bytes (from_index f a)
    → ((get_or w 0 0 * 256 + get_or w 1 0) * 256 + get_or w 2 0) * 256 + get_or w 3 0 ≡ num 32 f a
long_of f a w e =
    ap₂ (λ (x y : ℕ). x * 256 + y) (ap₂ (λ (x y : ℕ). x * 256 + y) (ap₂ (λ (x y : ℕ). x * 256 + y) (byte 0 (omega arith)
    ∙ at 0 a (omega arith)) (byte 1 (omega arith))) (byte 2 (omega arith))) (byte 3 (omega arith))
    ∙ sym (num_split 24 8 f a ∙ ap (λ (x : ℕ). x * 256 + num 8 f (a + 24)) (num_split 16 8 f a
    ∙ ap (λ (x : ℕ). x * 256 + num 8 f (a + 16)) (num_split 8 8 f a)))
  where
    at : (k b : ℕ) → a + 8 * k ≡ b → num 8 f (a + 8 * k) ≡ num 8 f b
    at k b q = ap (num 8 f) q

    byte : (k : ℕ) → k < word_bytes → get_or w k 0 ≡ num 8 f (a + 8 * k)
    byte k h =
        ap (λ (s : List ℕ). get_or s k 0) e ∙ get_d_tabulate 0 word_bytes (byte_of (from_index f a)) k h
        ∙ num_ext 8 (from_index f a) f (8 * k) (a + 8 * k) (λ j l. ap f (sym (add_assoc a (8 * k) j)))

-- byte k of copied bits
pub copied : (s : List ℕ) (at k x : ℕ) → x ≡ num 8 (bit_at s) (at + 8 * k) → x ≡ byte_of (from_index (bit_at s) at) k
copied s at k x e = e ∙ num_ext 8 (bit_at s) (from_index (bit_at s) at) (at + 8 * k) (8 * k) (λ j l. ap (bit_at s) (add_assoc at (8 * k) j))

packed_bytes : (n : ℕ) (g : ℕ → ℕ) → Bits g → Bytes (pack n g)
packed_bytes n g b k =
    by_bound n k (λ h. rw (get_d_tabulate 0 n (byte_of g) k h) (num_lt 8 g (8 * k) b)) (λ h. rw (get_d_past 0 n (byte_of g) k h) (lit< tt))

-- the CRC of the bytes that n bytes of bits pack to
pub crc_packed : (t s : List ℕ) (n : ℕ) (g : ℕ → ℕ) → Bits g → t ≡ entries → s ≡ pack n g → crc_by t s ≡ crc_of (8 * n) g
crc_packed t s n g b et es =
    ap (crc_by t) es ∙ bytes_crc t (pack n g) et (packed_bytes n g b)
    ∙ ap (λ (x : ℕ). crc_of (8 * x) (bit_at (pack n g))) (length-packs 8 n g)
    ∙ crc_ext (8 * n) (bit_at (pack n g)) g (λ i l. bit_of-packs 8 n g i b l)

-- the word of what repair gives
pub word_of : (cap : List ℕ) (w : ℕ) (r : Repaired) → r ≡ repair_of (word_in cap w) → r.word ≡ repaired cap w
unfolding repaired
word_of cap w r e = ap (λ (x : Repaired). x.word) e

-- ---- words whose checks are known

-- checks zero: the word stays
pub sound_word_kept : (cap : List ℕ) (w : ℕ) → checks_of (word_in cap w) ≡ 0 → word_in cap w ≡ repaired cap w
unfolding repaired
sound_word_kept cap w e = sym (ap (λ (x : Repaired). x.word) (none_kept (word_in cap w) e))
