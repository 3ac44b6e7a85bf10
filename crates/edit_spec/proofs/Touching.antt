-- Which bits of an FEC block an edit touches, and which elements hold one of them. Assumes nothing.
use Prim.Native.Nat.{ℕ, zero, suc, ◌+◌, ◌-◌, ◌*◌, ◌/◌, ◌≤◌, ◌<◌}
use mathlib.Core.Bool.{Bool, true, false, ◌&&◌, ◌||◌, and-false}
use mathlib.Core.Path.{◌≡◌, refl, sym, ap, ◌∙◌}
use mathlib.Core.Logic.{⊎_elim}
use native.Mathlib.Nat.{not-suc-le-zero, eq-or-lt_of_le, le_of_suc-le-suc}
use native.Mathlib.Omega.{arith}
use borrow.Author.Tests.{lt-ltb, le-ltb, le-leb, lt-leb}
use lib.Dec.{ltb, leb}
use Rattle.prelude.proofs.Common.{clash}
use Rattle.sizes.specs.Sizes.{block_bits, info_bits, mbas_from, parity_from, element_bits, info_elements}
use Rattle.edit_spec.specs.Edit.{block_from, in_block, touched, touches}
use Rattle.edit_spec.specs.Listed.{Touch}

-- ---- the client block's own bits

pub block_in : (b i : ℕ) → block_from b ≤ i → i < block_from b + block_bits → in_block b i ≡ true
unfolding in_block
block_in b i h l = rw (le-leb (block_from b) i h, lt-ltb i (block_from b + block_bits) l)

pub block_before : (b i : ℕ) → i < block_from b → in_block b i ≡ false
unfolding in_block
block_before b i h = rw (lt-leb (block_from b) i h)

pub block_past : (b i : ℕ) → block_from b + block_bits ≤ i → in_block b i ≡ false
unfolding in_block
block_past b i h = rw (le-ltb i (block_from b + block_bits) h) (and-false (leb (block_from b) i))

-- ---- one bit among n

either_left : (x y : Bool) → x ≡ true → x || y ≡ true
either_left true y e = refl
either_left false y e = absurd (clash refl (sym e))

either_right : (x y : Bool) → y ≡ true → x || y ≡ true
either_right true y e = refl
either_right false y e = e

-- a touched bit among them gives true ..
pub touches_at : (b i n j : ℕ) → j < n → touched b (i + j) ≡ true → touches b i n ≡ true
unfolding touches
touches_at b i zero j h e = absurd (not-suc-le-zero h)
touches_at b i (suc n) j h e =
    ⊎_elim (λ q. either_right (touches b i n) (touched b (i + n)) (ap (λ (x : ℕ). touched b (i + x)) (sym (le_of q)) ∙ e))
    (λ l. either_left (touches b i n) (touched b (i + n)) (touches_at b i n j (le_of_suc-le-suc l) e)) (eq-or-lt_of_le h)
  where
    le_of : suc j ≡ suc n → j ≡ n
    le_of q = omega arith

-- .. and only such a bit does
pub touches_some : (b i n : ℕ) → touches b i n ≡ true → Touch b i n
unfolding touches
touches_some b i zero e = absurd (clash e refl)
touches_some b i (suc n) e = by (touches b i n) refl e (touches_some b i n)
  where
    by : (x : Bool) → touches b i n ≡ x → x || touched b (i + n) ≡ true → (touches b i n ≡ true → Touch b i n) → Touch b i (suc n)
    by true p q h = let r = h p in record { bit = r.bit; within = omega (arith, r.within); there = r.there }
    by false p q h = record { bit = n; within = omega arith; there = q }

pub touches_none : (b i n : ℕ) → ((j : ℕ) → j < n → touched b (i + j) ≡ false) → touches b i n ≡ false
unfolding touches
touches_none b i zero h = refl
touches_none b i (suc n) h = rw (touches_none b i n (λ j l. h j (omega arith)), h n (omega arith))

-- ---- by place

pub touched_block : (b i : ℕ) → block_from b ≤ i → i < block_from b + block_bits → touched b i ≡ true
unfolding touched
touched_block b i h l = rw (block_in b i h l)

pub touched_crc : (b i : ℕ) → info_bits ≤ i → i < mbas_from → touched b i ≡ true
unfolding touched
touched_crc b i h l = rw (le-leb info_bits i h, lt-ltb i mbas_from l) (some (in_block b i) (leb parity_from i))
  where
    some : (x y : Bool) → x || true || y ≡ true
    some true y = refl
    some false y = refl

pub touched_parity : (b i : ℕ) → parity_from ≤ i → touched b i ≡ true
unfolding touched
touched_parity b i h = rw (le-leb parity_from i h) (either_right (in_block b i || (leb info_bits i && ltb i mbas_from)) true refl)

pub element_untouched : (b i : ℕ) → i < info_bits → in_block b i ≡ false → touched b i ≡ false
unfolding touched
element_untouched b i h e = rw (e, lt-leb info_bits i h, lt-leb parity_from i (omega arith))

-- ---- by element: local element m holds a touched bit exactly if it is one of the last 138 or the client block reaches into it

pub element_tail : (b m : ℕ) → info_elements ≤ m → touches b (element_bits * m) element_bits ≡ true
element_tail b m h =
    touches_at b (element_bits * m) element_bits 0 (omega arith)
    (⊎_elim (λ q. touched_crc b (element_bits * m + 0) (omega arith) (omega arith)) (λ l. touched_parity b (element_bits * m + 0) (omega arith))
    (eq-or-lt_of_le h))

pub element_block : (b m : ℕ) → block_from b / element_bits ≤ m → m ≤ (block_from b + 256) / element_bits → touches b (element_bits * m) element_bits ≡ true
element_block b m h l =
    let j = block_from b - element_bits * m in
    touches_at b (element_bits * m) element_bits j (omega arith) (touched_block b (element_bits * m + j) (omega arith) (omega arith))

pub element_before : (b m : ℕ) → m < info_elements → m < block_from b / element_bits → touches b (element_bits * m) element_bits ≡ false
element_before b m h l =
    touches_none b (element_bits * m) element_bits
    (λ j k. element_untouched b (element_bits * m + j) (omega arith) (block_before b (element_bits * m + j) (omega arith)))

pub element_past : (b m : ℕ) → m < info_elements → (block_from b + 256) / element_bits < m → touches b (element_bits * m) element_bits ≡ false
element_past b m h l =
    touches_none b (element_bits * m) element_bits
    (λ j k. element_untouched b (element_bits * m + j) (omega arith) (block_past b (element_bits * m + j) (omega arith)))
