-- The laws of the interleaver: the two index maps are inverse to each other, which slots are filler, and where two super frames mix.
-- Assumes nothing.
use Prim.Native.Nat.{ℕ, ◌+◌, ◌-◌, ◌*◌, ◌/◌, ◌%◌, ◌≤◌, ◌<◌}
use mathlib.Core.Bool.{Bool, true, false, not, and-true}
use mathlib.Core.Path.{◌≡◌, refl, sym, ap, ◌∙◌}
use native.Mathlib.Omega.{arith}
use borrow.Author.Tests.{ltb-true, ltb-false, leb-true, lt-ltb, le-ltb, le-leb, lt-leb}
use lib.Dec.{ltb, leb}
use Rattle.prelude.specs.Loops.{count}
use Rattle.bits.specs.Bits.{Bits}
use Rattle.prelude.proofs.Counting.{count_ext}
use Rattle.prelude.proofs.Common.{and_left, and_right, cond_bit}
use Rattle.sizes.specs.Sizes.{super_elements, words, rows, longest_wait}
use Rattle.line.specs.Slots.{delay, slot_of, element_in, holds, slot_bit}

-- a slot has its element's row, and so its delay
slot_row : (e : ℕ) → slot_of e % rows ≡ e % rows
unfolding slot_of delay
slot_row e = omega arith

slot_delay : (e : ℕ) → delay (slot_of e) ≡ delay e
unfolding delay
slot_delay e = rw (slot_row e)

there_and_back : (e : ℕ) → slot_of e - delay e ≡ e
unfolding slot_of
there_and_back e = omega arith

-- the element of a slot is the one that went there
pub element_slot : (e : ℕ) → element_in (slot_of e) ≡ e
unfolding element_in
element_slot e = rw (slot_delay e) (there_and_back e)

pub slot_from : (e : ℕ) → delay (slot_of e) ≤ slot_of e
unfolding slot_of
slot_from e = rw (slot_delay e) (omega arith)

pub delay_most : (e : ℕ) → delay e ≤ longest_wait
unfolding delay
delay_most e = omega arith

-- every element of N super frames has a slot among their words
pub slot_lt : (N e : ℕ) → e < super_elements * N → slot_of e < words N
unfolding slot_of
slot_lt N e h = omega (arith, delay_most e)

-- two elements never share a slot
pub slot_once : (e e' : ℕ) → slot_of e ≡ slot_of e' → e ≡ e'
slot_once e e' h = sym (element_slot e) ∙ ap element_in h ∙ element_slot e'

pub holds_slot : (N e : ℕ) → e < super_elements * N → holds N (slot_of e) ≡ true
unfolding holds
holds_slot N e h = rw (le-leb (delay (slot_of e)) (slot_of e) (slot_from e), element_slot e, lt-ltb e (super_elements * N) h)

-- a word that holds an element: which, and that this is its slot
pub record Held (N w : ℕ) : Type 0 where
  pub below : element_in w < super_elements * N
  pub back : slot_of (element_in w) ≡ w

element_row : (w : ℕ) → delay w ≤ w → element_in w % rows ≡ w % rows
unfolding element_in delay
element_row w h = omega arith

element_delay : (w : ℕ) → delay w ≤ w → delay (element_in w) ≡ delay w
unfolding delay
element_delay w h = rw (element_row w h)

waited : (w : ℕ) → delay w ≤ w → element_in w + delay w ≡ w
unfolding element_in
waited w h = omega arith

back_again : (w : ℕ) → delay w ≤ w → slot_of (element_in w) ≡ w
unfolding slot_of
back_again w h = rw (element_delay w h) (waited w h)

pub held : (N w : ℕ) → holds N w ≡ true → Held N w
unfolding holds
held N w h = record {
  below = ltb-true (element_in w) (super_elements * N) (and_right (leb (delay w) w) (ltb (element_in w) (super_elements * N)) h);
  back = back_again w (leb-true (delay w) w (and_left (leb (delay w) w) (ltb (element_in w) (super_elements * N)) h));
}

-- how code tests it
pub holds_before : (N w : ℕ) → w < delay w → false ≡ holds N w
unfolding holds
holds_before N w h = rw (lt-leb (delay w) w h)

pub holds_from : (N w : ℕ) → delay w ≤ w → ltb ((w - delay w) / super_elements) N ≡ holds N w
unfolding holds element_in
holds_from N w h = rw (le-leb (delay w) w h) (by_test (ltb ((w - delay w) / super_elements) N) refl)
  where
    by_test : (b : Bool) → ltb ((w - delay w) / super_elements) N ≡ b → b ≡ ltb (w - delay w) (super_elements * N)
    by_test true e = sym (lt-ltb (w - delay w) (super_elements * N) (omega (arith, ltb-true ((w - delay w) / super_elements) N e)))
    by_test false e = sym (le-ltb (w - delay w) (super_elements * N) (omega (arith, ltb-false ((w - delay w) / super_elements) N e)))

-- ---- what a word holds

pub slot_bit_law : (N : ℕ) (E : ℕ → ℕ → ℕ) (e i : ℕ) → e < super_elements * N → slot_bit N E (slot_of e) i ≡ E e i
unfolding slot_bit
slot_bit_law N E e i h = rw (holds_slot N e h, element_slot e)

pub filler_bit : (N : ℕ) (E : ℕ → ℕ → ℕ) (w i : ℕ) → holds N w ≡ false → slot_bit N E w i ≡ 0
unfolding slot_bit
filler_bit N E w i h = rw h

pub held_bit : (N : ℕ) (E : ℕ → ℕ → ℕ) (w i : ℕ) → holds N w ≡ true → slot_bit N E w i ≡ E (element_in w) i
unfolding slot_bit
held_bit N E w i h = rw h

pub slot_bits : (N : ℕ) (E : ℕ → ℕ → ℕ) (w : ℕ) → ((e : ℕ) → Bits (E e)) → Bits (slot_bit N E w)
unfolding slot_bit
slot_bits N E w h i = cond_bit (holds N w) (E (element_in w) i) 0 (h (element_in w) i) (omega arith)

-- ---- filler: 240 slots before the first elements have come through, 240 from the flush

before_flush : (N k : ℕ) → k < longest_wait → 0 < N → holds N k ≡ leb (delay k) k
unfolding holds element_in
before_flush N k h p = rw (lt-ltb (k - delay k) (super_elements * N) (omega arith)) (and-true (leb (delay k) k))

-- a border has whole rows before it
border_delay : (f k : ℕ) → delay (super_elements * f + k) ≡ delay k
unfolding delay
border_delay f k = let r : (super_elements * f + k) % rows ≡ k % rows = omega arith in rw r

in_flush : (N k : ℕ) → 0 < N → holds N (super_elements * N + k) ≡ ltb k (delay k)
unfolding holds element_in
in_flush N k p =
    rw (border_delay N k, le-leb (delay k) (super_elements * N + k) (omega (arith, delay_most k))) (by_test (ltb k (delay k)) refl)
  where
    by_test : (b : Bool) → ltb k (delay k) ≡ b → ltb (super_elements * N + k - delay k) (super_elements * N) ≡ b
    by_test true e = lt-ltb (super_elements * N + k - delay k) (super_elements * N) (omega (arith, ltb-true k (delay k) e, delay_most k))
    by_test false e = le-ltb (super_elements * N + k - delay k) (super_elements * N) (omega (arith, ltb-false k (delay k) e))

full_between : (N w : ℕ) → longest_wait ≤ w → w < super_elements * N → holds N w ≡ true
unfolding holds element_in
full_between N w h l = rw (le-leb (delay w) w (omega (arith, delay_most w)), lt-ltb (w - delay w) (super_elements * N) (omega arith))

filler_first : count (λ k. not (leb (delay k) k)) longest_wait ≡ 240
unfolding count delay
filler_first = refl

filler_last : count (λ k. not (ltb k (delay k))) longest_wait ≡ 240
unfolding count delay
filler_last = refl

pub record Filler (N : ℕ) : Type 0 where
  pub before : count (λ k. not (holds N k)) longest_wait ≡ 240
  pub between : (w : ℕ) → longest_wait ≤ w → w < super_elements * N → holds N w ≡ true
  pub flushed : count (λ k. not (holds N (super_elements * N + k))) longest_wait ≡ 240

pub filler : (N : ℕ) → 0 < N → Filler N
filler N p = record {
  before = count_ext (λ k. not (holds N k)) (λ k. not (leb (delay k) k)) longest_wait (λ k l. ap not (before_flush N k l p)) ∙ filler_first;
  between = full_between N;
  flushed = count_ext (λ k. not (holds N (super_elements * N + k))) (λ k. not (ltb k (delay k))) longest_wait (λ k l. ap not (in_flush N k p)) ∙ filler_last;
}

-- ---- the interleaver does not stop at a border: word k behind the border before super frame f + 1 still holds an element of super frame f
-- where k is below its delay. Words 15 to 464 mix the two, 225 of each

pub record Border (f : ℕ) : Type 0 where
  pub old : (k : ℕ) → k < delay k → element_in (super_elements * (f + 1) + k) / super_elements ≡ f
  pub new : (k : ℕ) → delay k ≤ k → k < super_elements → element_in (super_elements * (f + 1) + k) / super_elements ≡ f + 1
  pub first_new : (k : ℕ) → k < 15 → k < delay k
  pub last_old : (k : ℕ) → 464 < k → delay k ≤ k
  pub of_old : count (λ k. ltb (15 + k) (delay (15 + k))) 450 ≡ 225
  pub of_new : count (λ k. leb (delay (15 + k)) (15 + k)) 450 ≡ 225

border_element : (f k : ℕ) → element_in (super_elements * (f + 1) + k) ≡ super_elements * (f + 1) + k - delay k
unfolding element_in
border_element f k = rw (border_delay (f + 1) k)

pub border : (f : ℕ) → Border f
unfolding delay count
border f = record {
  old = λ k h. rw (border_element f k) (omega (arith, delay_most k));
  new = λ k h l. rw (border_element f k) (omega arith);
  first_new = λ k h. omega arith;
  last_old = λ k h. omega arith;
  of_old = refl;
  of_new = refl;
}
