-- Bits at their places, by bytes. Assumes nothing.
use Prim.Native.Nat.{ℕ, ◌+◌, ◌-◌, ◌*◌, ◌/◌, ◌%◌, ◌^◌, ◌≤◌, ◌<◌}
use mathlib.Core.Bool.{Bool, cond, ◌&&◌}
use mathlib.Core.Path.{◌≡◌, refl, sym, ap, ap₂, ◌∙◌}
use mathlib.Core.List.{List}
use native.Mathlib.Nat.{zero-add, zero-div, one-mul, mod-eq_of_lt}
use native.Mathlib.Omega.{arith}
use borrow.Author.Tests.{lt-ltb, le-ltb, le-leb, lt-leb}
use lib.Dec.{ltb, leb}
use lib.Pow.{pow_mono}
use lib.ListN.{get_or, replicate}
use Rattle.sizes.specs.Sizes.{word_bytes, word_bits}
use Rattle.prelude.specs.Lists.{from_index, tabulate}
use Rattle.prelude.proofs.Common.{by_bound, cond_bit, same_test}
use Rattle.prelude.proofs.Lists.{get_d_tabulate}
use Rattle.bits.specs.Bits.{num, digit, bit_of, bit_at, byte_of, pack, Bits}
use Rattle.bits.proofs.Numbers.{num_lt, num_ext, num_split, num_front, num_back, num-digit, digit-num, digit_lt}
use Rattle.bits.proofs.Packing.{bit_of_lt, bit_of_at, packs_ext}
use Rattle.bits_place.specs.Steps.{placed_at, masked, EightBefore, fronted, room_byte}

-- ---- a byte

-- the first c bits of x and the last 8 - c of y, as one number
front_is : (c x y : ℕ) → c ≤ 8 → x < 256 → y < 256 → x / 2 ^ (8 - c) * 2 ^ (8 - c) + y % 2 ^ (8 - c) ≡ num 8 (fronted c x y) 0
unfolding fronted
front_is c x y h hx hy =
    let d = 8 - c in
    let e : c + d ≡ 8 = omega arith in
    let high : num c (fronted c x y) 0 ≡ x / 2 ^ d =
    num_ext c (fronted c x y) (digit 8 x) 0 0 (λ j l. ap (λ (t : Bool). cond t (digit 8 x (0 + j)) (digit 8 y (0 + j))) (lt-ltb (0 + j) c (omega arith)))
    ∙ sym (num_front c d (digit 8 x) 0 (digit_lt 8 x)) ∙ ap (λ (n : ℕ). num n (digit 8 x) 0 / 2 ^ d) e ∙ ap (λ (n : ℕ). n / 2 ^ d) (num-digit 8 x hx) in
    let low : num d (fronted c x y) (0 + c) ≡ y % 2 ^ d =
    num_ext d (fronted c x y) (digit 8 y) (0 + c) (0 + c) (λ j l. ap (λ (t : Bool). cond t (digit 8 x (0 + c + j)) (digit 8 y (0 + c + j))) (le-ltb (0 + c + j) c (omega arith)))
    ∙ sym (num_back c d (digit 8 y) 0 (digit_lt 8 y)) ∙ ap (λ (n : ℕ). num n (digit 8 y) 0 % 2 ^ d) e ∙ ap (λ (n : ℕ). n % 2 ^ d) (num-digit 8 y hy) in
    sym (ap (λ (n : ℕ). num n (fronted c x y) 0) (sym e) ∙ num_split c d (fronted c x y) 0 ∙ ap₂ (λ (u v : ℕ). u * 2 ^ d + v) high low)

pub fronted_bits : (c x y : ℕ) → Bits (fronted c x y)
unfolding fronted
fronted_bits c x y j = cond_bit (ltb j c) (digit 8 x j) (digit 8 y j) (digit_lt 8 x j) (digit_lt 8 y j)

-- the mask's lowest place, as a shift makes it
pub one_shifted : (c : ℕ) → 1 * 2 ^ (8 - c) % 4294967296 ≡ 2 ^ (8 - c)
one_shifted c =
    let small : 2 ^ (8 - c) ≤ 2 ^ 8 = pow_mono {i = 8 - c} {j = 8} (omega arith) in
    ap (λ (n : ℕ). n % 4294967296) (one-mul (2 ^ (8 - c))) ∙ mod-eq_of_lt (omega arith)

-- so the number as the code makes it
module _ (c x y : ℕ) (h : c ≤ 8) (hx : x < 256) (hy : y < 256) where
  pub front_made : x / 2 ^ (8 - c) * (1 * 2 ^ (8 - c) % 4294967296) + y % (1 * 2 ^ (8 - c) % 4294967296) ≡ num 8 (fronted c x y) 0
  front_made = ap (λ (m : ℕ). x / 2 ^ (8 - c) * m + y % m) (one_shifted c) ∙ front_is c x y h hx hy

  pub front_lt : x / 2 ^ (8 - c) * (1 * 2 ^ (8 - c) % 4294967296) + y % (1 * 2 ^ (8 - c) % 4294967296) < 256
  front_lt = rw front_made (num_lt 8 (fronted c x y) 0 (fronted_bits c x y))

module _ (a z p x old ca cz u : ℕ) (ha : EightBefore p a ca) (hz : EightBefore p z cz) (hu : u ≡ num 8 (fronted cz x old) 0) where
  inside : (i : ℕ) → i < 8 → ltb i cz ≡ ltb (p + i) z
  inside i h =
      by_bound cz i (λ l. lt-ltb i cz l ∙ sym (lt-ltb (p + i) z (hz.low i l))) (λ l. le-ltb i cz l ∙ sym (le-ltb (p + i) z (hz.high i l h)))

  bit_under : (i : ℕ) → i < 8 → fronted ca old u i ≡ masked a z p (digit 8 x) (digit 8 old) i
  unfolding fronted masked
  bit_under i h = by_bound ca i low high
    where
      low : i < ca → fronted ca old u i ≡ masked a z p (digit 8 x) (digit 8 old) i
      low l = rw (lt-ltb i ca l, lt-leb a (p + i) (ha.low i l))

      high : ca ≤ i → fronted ca old u i ≡ masked a z p (digit 8 x) (digit 8 old) i
      high l =
          rw (le-ltb i ca l, le-leb a (p + i) (ha.high i l h))
          (ap (λ (y : ℕ). digit 8 y i) hu ∙ digit-num 8 (fronted cz x old) 0 i (fronted_bits cz x old) h ∙ ap (fronted cz x old) (zero-add i)
          ∙ ap (λ (t : Bool). cond t (digit 8 x i) (digit 8 old i)) (inside i h))

  -- eight places: before the stretch the old bits, then the others under what is left of the mask
  pub byte_under : num 8 (fronted ca old u) 0 ≡ num 8 (masked a z p (digit 8 x) (digit 8 old)) 0
  byte_under = num_ext 8 (fronted ca old u) (masked a z p (digit 8 x) (digit 8 old)) 0 0 (λ j l. bit_under (0 + j) (omega arith))

-- byte k of a word
pub word_under : (a z q k : ℕ) (x old : List ℕ)
    → num 8 (masked a z (q + 8 * k) (digit 8 (get_or x k 0)) (digit 8 (get_or old k 0))) 0 ≡ byte_of (masked a z q (bit_at x) (bit_at old)) k
unfolding masked
word_under a z q k x old =
    num_ext 8 (masked a z (q + 8 * k) (digit 8 (get_or x k 0)) (digit 8 (get_or old k 0))) (masked a z q (bit_at x) (bit_at old)) 0 (8 * k)
    (λ j l.
    let e : q + 8 * k + (0 + j) ≡ q + (8 * k + j) = omega arith in
    let d : 0 + j ≡ j = omega arith in
    rw (e, d, bit_of_at 8 x k j l, bit_of_at 8 old k j l))

-- ---- a field

pub placed_from : (a q : ℕ) (f : ℕ → ℕ) → a ≤ q → pack word_bytes (from_index f (q - a)) ≡ pack word_bytes (placed_at a q f)
unfolding placed_at
placed_from a q f h =
    packs_ext 8 word_bytes (from_index f (q - a)) (placed_at a q f)
    (λ i l. let e : q - a + i ≡ q + i - a = omega arith in rw (le-ltb (q + i) a (omega arith), e))

pub placed_behind : (a q : ℕ) (f : ℕ → ℕ) → q < a → pack word_bytes (placed_at (a - q) 0 f) ≡ pack word_bytes (placed_at a q f)
unfolding placed_at
placed_behind a q f h =
    packs_ext 8 word_bytes (placed_at (a - q) 0 f) (placed_at a q f)
    (λ i l.
    let e : 0 + i - (a - q) ≡ q + i - a = omega arith in
    let t : ltb (0 + i) (a - q) ≡ ltb (q + i) a = same_test (0 + i) (a - q) (q + i) a (λ m. omega arith) (λ m. omega arith) in
    rw (t, e))

zero_word : pack word_bytes (λ i. 0) ≡ replicate word_bytes 0
unfolding num tabulate
zero_word = refl

pub nothing_placed : (d : ℕ) (f : ℕ → ℕ) → word_bits ≤ d → replicate word_bytes 0 ≡ pack word_bytes (placed_at d 0 f)
unfolding placed_at
nothing_placed d f h = sym (packs_ext 8 word_bytes (placed_at d 0 f) (λ i. 0) (λ i l. rw (lt-ltb (0 + i) d (omega arith))) ∙ zero_word)

module _ (s room : List ℕ) (e : room ≡ tabulate 32 (room_byte s)) where
  room_bit : (j : ℕ) → j < 256 → bit_at room j ≡ digit 8 (room_byte s (j / 8)) (j % 8)
  unfolding bit_of
  room_bit j h = ap (λ (x : ℕ). digit 8 x (j % 8)) (ap (λ (t : List ℕ). get_or t (j / 8) 0) e ∙ get_d_tabulate 0 32 (room_byte s) (j / 8) (omega arith))

  room_low : (j : ℕ) → j < word_bits → bit_at room j ≡ 0
  unfolding room_byte digit
  room_low j h = room_bit j (omega arith) ∙ rw (lt-ltb (j / 8) word_bytes (omega arith)) (zero_digit (7 - j % 8))
    where
      zero_digit : (n : ℕ) → 0 / 2 ^ n % 2 ≡ 0
      zero_digit n = omega (arith, zero-div (2 ^ n))

  room_high : (j : ℕ) → j < word_bits → bit_at room (word_bits + j) ≡ bit_at s j
  unfolding room_byte
  room_high j h =
      let k : (word_bits + j) / 8 - word_bytes ≡ j / 8 = omega arith in
      let m : (word_bits + j) % 8 ≡ j % 8 = omega arith in
      let b : 8 * (j / 8) + j % 8 ≡ j = omega arith in
      room_bit (word_bits + j) (omega arith)
      ∙ rw (le-ltb ((word_bits + j) / 8) word_bytes (omega arith), k, m)
      (digit-num 8 (bit_at s) (8 * (j / 8)) (j % 8) (bit_of_lt 8 s) (omega arith) ∙ ap (bit_at s) b)

  -- the bits behind d zeros, out of the room
  pub room_placed : (d : ℕ) → d < word_bits → pack word_bytes (from_index (bit_at room) (word_bits - d)) ≡ pack word_bytes (placed_at d 0 (bit_at s))
  unfolding placed_at
  room_placed d h =
      packs_ext 8 word_bytes (from_index (bit_at room) (word_bits - d)) (placed_at d 0 (bit_at s)) (λ i l. by_bound d i (low i) (high i l))
    where
      low : (i : ℕ) → i < d → bit_at room (word_bits - d + i) ≡ placed_at d 0 (bit_at s) i
      low i m = rw (lt-ltb (0 + i) d (omega arith)) (room_low (word_bits - d + i) (omega arith))

      high : (i : ℕ) → i < word_bits → d ≤ i → bit_at room (word_bits - d + i) ≡ placed_at d 0 (bit_at s) i
      high i l m =
          let p : word_bits - d + i ≡ word_bits + (i - d) = omega arith in
          let q : 0 + i - d ≡ i - d = omega arith in
          rw (le-ltb (0 + i) d (omega arith), q) (ap (bit_at room) p ∙ room_high (i - d) (omega arith))

-- ---- bits stay bits

pub placed_bits : (a q : ℕ) (f : ℕ → ℕ) → Bits f → Bits (placed_at a q f)
unfolding placed_at
placed_bits a q f h i = cond_bit (ltb (q + i) a) 0 (f (q + i - a)) (omega arith) (h (q + i - a))

pub masked_bits : (a z q : ℕ) (f g : ℕ → ℕ) → Bits f → Bits g → Bits (masked a z q f g)
unfolding masked
masked_bits a z q f g hf hg i = cond_bit (leb a (q + i) && ltb (q + i) z) (f i) (g i) (hf i) (hg i)
