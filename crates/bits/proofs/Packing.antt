-- The bits of a list of w-bit elements and the elements made of bits, over the width. Assumes nothing.
use Prim.Native.Nat.{ℕ, zero, suc, ◌+◌, ◌-◌, ◌*◌, ◌/◌, ◌%◌, ◌^◌, ◌≤◌, ◌<◌}
use mathlib.Core.Path.{◌≡◌, refl, sym, ap, ◌∙◌}
use mathlib.Core.List.{List, [], ◌∷◌}
use native.Mathlib.Nat.{add-zero, mul_comm, div-eq_of_lt, mod-lt, mul-add-div, mul-add-mod_self_left, mod-eq_of_lt, div-lt_iff_lt-mul, div-add-mod}
use native.Mathlib.Nat.{zero-mul, zero-div, mul-le-mul_left, mul-zero, mul-one, zero-add, add_comm, add_assoc}
use native.Mathlib.Omega.{arith}
use lib.ListN.{length, get_or, take, drop, replicate, length-take, get_or-eq_default}
use lib.Seq.{get_or-take, get_or-drop}
use Rattle.prelude.specs.Lists.{from_index}
use Rattle.bits.specs.Bits.{num, digit, bit_of, packs, Bits, Bytes}
use Rattle.prelude.proofs.Common.{by_bound}
use Rattle.prelude.proofs.Lists.{length-tabulate, get_d_tabulate, tabulate_ext, tabulate-get_or}
use Rattle.bits.proofs.Numbers.{num_ext, num_split, num_front, num_back, digit-num, digit_lt, num_is}

-- ---- the bits of a list of w-bit elements

pub bit_of_lt : (w : ℕ) (s : List ℕ) → Bits (bit_of w s)
unfolding bit_of
bit_of_lt w s i = digit_lt w (get_or s (i / w) 0) (i % w)

-- past the end every bit is 0
pub bit_of_past : (w : ℕ) (s : List ℕ) (i : ℕ) → length s ≤ i / w → bit_of w s i ≡ 0
unfolding bit_of digit
bit_of_past w s i h = rw (get_or-eq_default s 0 h, zero-div)

-- bit j of element k
pub bit_of_at : (w : ℕ) (s : List ℕ) (k j : ℕ) → j < w → bit_of w s (w * k + j) ≡ digit w (get_or s k 0) j
unfolding bit_of
bit_of_at w s k j h =
    let p : 0 < w = omega arith in
    let d : (w * k + j) / w ≡ k = mul-add-div p k j ∙ rw (div-eq_of_lt h, add-zero) in
    let m : (w * k + j) % w ≡ j = mul-add-mod_self_left w k j ∙ mod-eq_of_lt h in
    rw (d, m)

-- element k, from its bits
pub num-bit_of : (w : ℕ) (s : List ℕ) (k : ℕ) → get_or s k 0 < 2 ^ w → num w (bit_of w s) (w * k) ≡ get_or s k 0
num-bit_of w s k h = num_is w (bit_of w s) (w * k) (get_or s k 0) h (λ j l. bit_of_at w s k j l)

pos_of_mul : (a b c : ℕ) → c < a * b → 0 < a
pos_of_mul zero b c h = absurd (omega (arith, rw zero-mul at h))
pos_of_mul (suc a) b c h = omega arith

pub length-packs : (w n : ℕ) (f : ℕ → ℕ) → length (packs w n f) ≡ n
length-packs w n f = length-tabulate n (λ k. num w f (w * k))

-- the bits of a packed list are the bits that were packed
pub bit_of-packs : (w n : ℕ) (f : ℕ → ℕ) (i : ℕ) → Bits f → i < w * n → bit_of w (packs w n f) i ≡ f i
unfolding bit_of
bit_of-packs w n f i h l =
    let p : 0 < w = pos_of_mul w n i l in
    let q : i / w < n = (div-lt_iff_lt-mul p).1 (rw mul_comm at l) in
    rw (get_d_tabulate 0 n (λ k. num w f (w * k)) (i / w) q, digit-num w f (w * (i / w)) (i % w) h (mod-lt i p), div-add-mod)

-- a list of w-bit elements is what its bits pack to
pub packs-bit_of : (w : ℕ) (s : List ℕ) → ((k : ℕ) → get_or s k 0 < 2 ^ w) → packs w (length s) (bit_of w s) ≡ s
packs-bit_of w s h =
    tabulate_ext (length s) (λ k. num w (bit_of w s) (w * k)) (λ k. get_or s k 0) (λ k l. num-bit_of w s k (h k)) ∙ tabulate-get_or 0 s

-- bit j of element k is one of the first w * n
pub below_width : (w n k j : ℕ) → k < n → j < w → w * k + j < w * n
below_width w n k j l m = omega (arith, mul-le-mul_left w l)

-- bit functions that agree on the first w * n bits pack alike
pub packs_ext : (w n : ℕ) (f g : ℕ → ℕ) → ((i : ℕ) → i < w * n → f i ≡ g i) → packs w n f ≡ packs w n g
packs_ext w n f g h =
    tabulate_ext n (λ k. num w f (w * k)) (λ k. num w g (w * k))
    (λ k l. num_ext w f g (w * k) (w * k) (λ j m. h (w * k + j) (below_width w n k j l m)))

-- w bits from bit r on of two elements, by one division: no bit is taken one by one
pub two_window : (w a b r : ℕ) → r < w → a < 2 ^ w → b < 2 ^ w → (a * 2 ^ w + b) / 2 ^ (w - r) % 2 ^ w ≡ num w (bit_of w (a ∷ b ∷ [])) r
two_window w a b r l ha hb =
    let f = bit_of w (a ∷ b ∷ []) in
    let top : a ≡ num w f 0 = sym (num-bit_of w (a ∷ b ∷ []) 0 ha) ∙ ap (num w f) (mul-zero w) in
    let low : b ≡ num w f (0 + w) = sym (num-bit_of w (a ∷ b ∷ []) 1 hb) ∙ ap (num w f) (mul-one w ∙ sym (zero-add w)) in
    let whole : a * 2 ^ w + b ≡ num (w + w) f 0 = ap (λ (x : ℕ). x * 2 ^ w + b) top ∙ ap (λ (y : ℕ). num w f 0 * 2 ^ w + y) low ∙ sym (num_split w w f 0) in
    let cut : w + w ≡ (r + w) + (w - r) = omega arith in
    rw (whole, cut, num_front (r + w) (w - r) f 0 (bit_of_lt w (a ∷ b ∷ [])), num_back r w f 0 (bit_of_lt w (a ∷ b ∷ [])), zero-add)

-- elements n and n + 1 of a list
two_of : (s : List ℕ) (n a b x : ℕ) → x < 2 → a ≡ get_or s n 0 → b ≡ get_or s (n + 1) 0 → get_or (a ∷ b ∷ []) x 0 ≡ get_or s (n + x) 0
two_of s n a b zero h p q = rw add-zero p
two_of s n a b (suc zero) h p q = q
two_of s n a b (suc (suc x)) h p q = absurd (omega arith)

-- w bits from bit i on stand in two elements
pub num_two : (w : ℕ) (s : List ℕ) (i a b : ℕ) → 0 < w → a ≡ get_or s (i / w) 0 → b ≡ get_or s (i / w + 1) 0
    → num w (bit_of w (a ∷ b ∷ [])) (i % w) ≡ num w (bit_of w s) i
unfolding bit_of
num_two w s i a b p ea eb =
    num_ext w (bit_of w (a ∷ b ∷ [])) (bit_of w s) (i % w) i
    (λ j l.
    let x = i % w + j in
    let e : i + j ≡ w * (i / w) + x = ap (λ (y : ℕ). y + j) (sym (div-add-mod i w)) ∙ add_assoc (w * (i / w)) (i % w) j in
    let d : (i + j) / w ≡ i / w + x / w = ap (λ (y : ℕ). y / w) e ∙ mul-add-div p (i / w) x in
    let m : (i + j) % w ≡ x % w = ap (λ (y : ℕ). y % w) e ∙ mul-add-mod_self_left w (i / w) x in
    let few : x / w < 2 = (div-lt_iff_lt-mul p).1 (omega (arith, mod-lt i p)) in
    rw (d, m) (ap (λ (y : ℕ). digit w y (x % w)) (two_of s (i / w) a b (x / w) few ea eb)))

-- the same, k elements further on, as a loop takes them that goes on from bit i
pub num_two_from : (w : ℕ) (s : List ℕ) (i k a b : ℕ) → 0 < w → a ≡ get_or s (i / w + k) 0 → b ≡ get_or s (i / w + k + 1) 0
    → num w (bit_of w (a ∷ b ∷ [])) (i % w) ≡ num w (from_index (bit_of w s) i) (w * k)
num_two_from w s i k a b p ea eb =
    let q : (i + w * k) / w ≡ i / w + k = ap (λ (x : ℕ). x / w) (add_comm i (w * k)) ∙ mul-add-div p k i ∙ add_comm k (i / w) in
    let r : (i + w * k) % w ≡ i % w = ap (λ (x : ℕ). x % w) (add_comm i (w * k)) ∙ mul-add-mod_self_left w k i in
    let e = num_two w s (i + w * k) a b p (rw q ea) (rw q eb) in
    (rw r at e) ∙ num_ext w (bit_of w s) (from_index (bit_of w s) i) (i + w * k) (w * k) (λ j l. ap (bit_of w s) (add_assoc i (w * k) j))

-- the bits of a part of a list are bits of the list
pub bit_of_part : (w : ℕ) (s : List ℕ) (a n i : ℕ) → i < w * n → bit_of w (take n (drop a s)) i ≡ bit_of w s (w * a + i)
unfolding bit_of
bit_of_part w s a n i l =
    let p : 0 < w = pos_of_mul w n i l in
    let q : i / w < n = (div-lt_iff_lt-mul p).1 (rw mul_comm at l) in
    let d : (w * a + i) / w ≡ a + i / w = mul-add-div p a i in
    let m : (w * a + i) % w ≡ i % w = mul-add-mod_self_left w a i in
    rw (d, m, get_or-take n (drop a s) (i / w) 0 q, get_or-drop a s (i / w) 0)

-- and its bytes are bytes
pub part_bytes : (s : List ℕ) (a n : ℕ) → Bytes s → Bytes (take n (drop a s))
part_bytes s a n h k = by_bound n k (λ l. rw (get_or-take n (drop a s) k 0 l, get_or-drop a s k 0) (h (a + k)))
    (λ l. rw (get_or-eq_default (take n (drop a s)) 0 (short l)) (omega arith))
  where
    short : n ≤ k → length (take n (drop a s)) ≤ k
    short l = simp length-take (omega arith)

-- nothing but zeros
pub get_or_zeros : (n k : ℕ) → ◌≡◌ {A = ℕ} (get_or (replicate n 0) k 0) 0
get_or_zeros zero k = refl
get_or_zeros (suc n) zero = refl
get_or_zeros (suc n) (suc k) = get_or_zeros n k

pub bit_of_zeros : (w n i : ℕ) → bit_of w (replicate n 0) i ≡ 0
unfolding bit_of digit
bit_of_zeros w n i = rw (get_or_zeros n (i / w), zero-div)
