-- Two pieces of 1028 bits are 257 bytes: the bytes of a pair, and a pair as a part of a longer stretch. Assumes nothing.
use Prim.Native.Nat.{ℕ, ◌+◌, ◌-◌, ◌*◌, ◌/◌, ◌≤◌, ◌<◌}
use mathlib.Core.Bool.{Bool, true, false, cond}
use Rattle.std.specs.Prelude.{Option, Some, None}
use Rattle.std.specs.Bool.{then_some}
use mathlib.Core.Path.{◌≡◌, refl, sym, ap, ◌∙◌}
use mathlib.Core.List.{List}
use native.Mathlib.Omega.{arith}
use borrow.Author.Tests.{lt-ltb, le-ltb}
use borrow.Rule.Slice.PartMut.{put_mid}
use lib.ListN.{length}
use Rattle.prelude.specs.Lists.{tabulate}
use Rattle.bits.specs.Bits.{num, bit_at, byte_of, pack, Bits}
use Rattle.prelude.proofs.Lists.{tabulate_ext, Filled, filled_block}
use Rattle.bits.proofs.Numbers.{num_ext, num_split, num_front, num-zero}
use Rattle.bits.proofs.Packing.{bit_of_lt}
use Rattle.sizes.specs.Sizes.{places, group_bits}
use Rattle.gmp_map.specs.Steps.{piece, Placed, pair_bit}

pub piece_lt : (s : List ℕ) (a : Option ℕ) → Bits (piece s a)
piece_lt s (Some a) i = bit_of_lt 8 s (a + i)
piece_lt s None i = omega arith

-- a piece that is there where b says so
pub piece_if : (s : List ℕ) (b : Bool) (a i : ℕ) → piece s (then_some b a) i ≡ cond b (bit_at s (a + i)) 0
piece_if s true a i = refl
piece_if s false a i = refl

placed_then : (b : Bool) (a : ℕ) → a ≤ group_bits * places → Placed (then_some b a)
placed_then true a h = h
placed_then false a h = tt

pub placed_if : (b : Bool) (a : ℕ) {u : Option ℕ} → u ≡ then_some b a → a ≤ group_bits * places → Placed u
placed_if b a e h = rw e (placed_then b a h)

-- ---- what `eight` answers

pub eight_on : (s : List ℕ) (i : ℕ) {p : Option ℕ} {at x : ℕ} → p ≡ Some at → x ≡ num 8 (bit_at s) (at + i) → x ≡ num 8 (piece s p) i
eight_on s i {p} {at} e h =
    rw e (h ∙ num_ext 8 (bit_at s) (piece s (Some at)) (at + i) i (λ j l. let q : at + i + j ≡ at + (i + j) = omega arith in ap (bit_at s) q))

pub eight_off : (s : List ℕ) (i : ℕ) {p : Option ℕ} → p ≡ None → 0 ≡ num 8 (piece s p) i
eight_off s i e = rw e (sym (num-zero 8 (λ i. 0) i (λ j l. refl)))

module _ (s : List ℕ) (a b : Option ℕ) where
  abbrev pair : ℕ → ℕ
  pair = pair_bit s a b

  pair_first : (i : ℕ) → i < group_bits → pair i ≡ piece s a i
  unfolding pair_bit
  pair_first i h = rw (lt-ltb i group_bits h)

  pair_second : (i : ℕ) → pair (group_bits + i) ≡ piece s b i
  unfolding pair_bit
  pair_second i = let e : group_bits + i - group_bits ≡ i = omega arith in rw (le-ltb (group_bits + i) group_bits (omega arith), e)

  -- a stretch of w bits within the first piece, and within the second
  within_first : (w i : ℕ) → i + w ≤ group_bits → num w (piece s a) i ≡ num w pair i
  within_first w i h = num_ext w (piece s a) pair i i (λ j l. sym (pair_first (i + j) (omega arith)))

  within_second : (w i : ℕ) → num w (piece s b) i ≡ num w pair (group_bits + i)
  within_second w i =
      num_ext w (piece s b) pair i (group_bits + i)
      (λ j l. let e : group_bits + (i + j) ≡ group_bits + i + j = omega arith in sym (pair_second (i + j)) ∙ ap pair e)

  -- ---- byte k of a pair: of the first piece, of the second, and the byte that has four bits of each

  pub pair_low : (k : ℕ) {x : ℕ} → x ≡ num 8 (piece s a) (8 * k) → k < 128 → x ≡ byte_of (pair_bit s a b) k
  pair_low k e h = e ∙ within_first 8 (8 * k) (omega arith)

  pub pair_high : (k : ℕ) {x : ℕ} → x ≡ num 8 (piece s b) (8 * k - group_bits) → 128 < k → x ≡ byte_of (pair_bit s a b) k
  pair_high k e h = let p : group_bits + (8 * k - group_bits) ≡ 8 * k = omega arith in e ∙ within_second 8 (8 * k - group_bits) ∙ ap (num 8 pair) p

  front : (f : ℕ → ℕ) (i x : ℕ) → Bits f → x ≡ num 8 f i → x / 16 ≡ num 4 f i
  front f i x h e = ap (λ (y : ℕ). y / 16) e ∙ num_front 4 4 f i h

  pub pair_middle : (k : ℕ) {x y : ℕ} → x ≡ num 8 (piece s a) 1024 → y ≡ num 8 (piece s b) 0 → 128 ≤ k → k ≤ 128
      → x / 16 * 16 + y / 16 ≡ byte_of (pair_bit s a b) k
  pair_middle k {x} {y} e e' h l =
      let p : 8 * k ≡ 1024 = omega arith in
      let u : x / 16 ≡ num 4 pair 1024 = front (piece s a) 1024 x (piece_lt s a) e ∙ within_first 4 1024 (omega arith) in
      let v : y / 16 ≡ num 4 pair group_bits = front (piece s b) 0 y (piece_lt s b) e' ∙ within_second 4 0 in
      rw (u, v, p) (sym (num_split 4 4 pair 1024))

-- ---- m bytes of P are the bytes from byte a on of B, where P's bits are B's from bit 8 a on
pub pack_part : (m a : ℕ) (P B : ℕ → ℕ) → ((i : ℕ) → i < 8 * m → P i ≡ B (8 * a + i)) → pack m P ≡ tabulate m (λ k. byte_of B (a + k))
pack_part m a P B h =
    tabulate_ext m (λ k. byte_of P k) (λ k. byte_of B (a + k))
    (λ k l. num_ext 8 P B (8 * k) (8 * (a + k))
    (λ j i. let e : 8 * a + (8 * k + j) ≡ 8 * (a + k) + j = omega arith in h (8 * k + j) (omega arith) ∙ ap B e))

-- a turn of a loop that lends the bytes from a up to e of a buffer, and gets the bytes of f back there
pub pairs_filled : (m e : ℕ) {a : ℕ} {f : ℕ → ℕ} {d out ys : List ℕ} → Filled a f d out → a + m ≡ e → e ≤ length d
    → ys ≡ tabulate m (λ k. f (a + k)) → Filled e f d (put_mid a (e - a) out ys)
pairs_filled m e {a} {f} {d} {out} {ys} h p l q =
    let k : e - a ≡ m = omega arith in
    let r : ys ≡ tabulate (e - a) (λ j. f (a + j)) = rw k q in
    filled_block (e - a) e h (omega arith) l r

pub ruleset pairs = (eight_on, eight_off, pair_low, pair_high, pair_middle)
