-- Which words are listed: what `listed` means, how many there are, and the list of them. Assumes nothing.
use Prim.Native.Nat.{ℕ, suc, ◌+◌, ◌-◌, ◌*◌, ◌/◌, ◌%◌, ◌≤◌, ◌<◌}
use mathlib.Core.Bool.{Bool, true, false, cond, not, ◌&&◌, and-true}
use mathlib.Core.Path.{◌≡◌, refl, sym, ap, ◌∙◌}
use mathlib.Core.List.{List}
use mathlib.Core.Logic.{◌⊎◌, inl, inr, ⊎_elim}
use native.Mathlib.Decide.{dec_lt}
use native.Mathlib.Nat.{lt_irrefl}
use native.Mathlib.Omega.{arith}
use borrow.Author.Tests.{leb-true, ltb-true, le-leb, leb-false, eqb-true, eq-eqb, lt-ltb, le-ltb, lt-leb, not-true}
use lib.Dec.{ltb, leb, eqb}
use Rattle.std.specs.Prelude.{Option, Some, None}
use Rattle.std.specs.Ordering.{nat_cmp, is_le, is_lt}
use Rattle.std.proofs.Common.{Less, Equal, Greater}
use Rattle.std.specs.Cmp.{nat_cmp_is}
use Rattle.prelude.specs.Loops.{count}
use Rattle.prelude.proofs.LoopLaws.{first_is, first_none}
use Rattle.prelude.proofs.Common.{clash, and_left, and_right, by_bound}
use Rattle.answer.specs.Steps.{first_found}
use Rattle.hamming.specs.Code.{checks_of}
use Rattle.line_order.specs.Order.{word_in}
use Rattle.sizes.specs.Sizes.{block_bits, fec_blocks, element_bits, super_elements, fec_elements, info_elements, words, blocks_of, tail_elements}
use Rattle.line.specs.Slots.{slot_of, delay, element_in, holds}
use Rattle.line.proofs.SlotLaws.{held}
use Rattle.edit_spec.specs.Edit.{fec_of, block_from, element_fec, element_local, is_pad, touches, listed, fails}
use Rattle.edit_spec.specs.Listed.{Holding}
use Rattle.edit_spec.specs.Steps.{FirstIn, first_element, stretch_from, stretch_to, InTail, InBlock, Between, OwnWords}
use Rattle.edit_spec.proofs.Touching.{touches_at, touches_some, element_tail, element_block, element_before, element_past}
use Rattle.edit_spec.proofs.Picking.{In, count_few}

-- ---- what it means: the word holds an element of the client block's FEC block, and one of its bits is touched

pad_test : (e : ℕ) → is_pad e ≡ false → e % super_elements < fec_elements * fec_blocks
unfolding is_pad
pad_test e h = leb-false (fec_elements * fec_blocks) (e % super_elements) h

no_pad_test : (e : ℕ) → e % super_elements < fec_elements * fec_blocks → is_pad e ≡ false
unfolding is_pad
no_pad_test e h = lt-leb (fec_elements * fec_blocks) (e % super_elements) h

pub listed_holding : (N b w : ℕ) → listed N b w ≡ true → Holding N b w
unfolding listed
listed_holding N b w h =
    let e = element_in w in
    let t₁ = holds N w in
    let t₂ = not (is_pad e) in
    let t₃ = eqb (element_fec e) (fec_of b) in
    let t₄ = touches b (element_bits * element_local e) element_bits in
    let h₃ = and_left (t₁ && t₂ && t₃) t₄ h in
    let h₂ = and_left (t₁ && t₂) t₃ h₃ in
    record {
      element = and_left t₁ t₂ h₂;
      no_pad = pad_test e (not-true (is_pad e) (and_right t₁ t₂ h₂));
      block = eqb-true (element_fec e) (fec_of b) (and_right (t₁ && t₂) t₃ h₃);
      touch = touches_some b (element_bits * element_local e) element_bits (and_right (t₁ && t₂ && t₃) t₄ h);
    }

pub holding_listed : (N b w : ℕ) → Holding N b w → listed N b w ≡ true
unfolding listed
holding_listed N b w h =
    let e = element_in w in
    rw (
      h.element,
      no_pad_test e h.no_pad,
      eq-eqb (element_fec e) (fec_of b) h.block,
      touches_at b (element_bits * element_local e) element_bits h.touch.bit h.touch.within h.touch.there,
    )

-- number 9
pub fails_unlisted : (N b : ℕ) (cap : List ℕ) (w : ℕ) → listed N b w ≡ false → false ≡ fails N b cap w
unfolding fails
fails_unlisted N b cap w h = rw h

pub fails_listed : (N b : ℕ) (cap : List ℕ) (w : ℕ) → listed N b w ≡ true → not (eqb (checks_of (word_in cap w)) 0) ≡ fails N b cap w
unfolding fails
fails_listed N b cap w h = rw h

-- ---- how many there are

-- the k-th of the elements that hold a touched bit, within their FEC block: first the last 138, then the client block's own
unfoldable pub own : ℕ → ℕ → ℕ
own b k = cond (ltb k tail_elements) (info_elements + k) (block_from b / element_bits + (k - tail_elements))

unfoldable pub slot_no : ℕ → ℕ → ℕ
slot_no b k = slot_of (first_element b + own b k)

pub own_tail : (b k : ℕ) → k < tail_elements → own b k ≡ info_elements + k
unfolding own
own_tail b k h = rw (lt-ltb k tail_elements h)

pub own_block : (b j : ℕ) → own b (tail_elements + j) ≡ block_from b / element_bits + j
unfolding own
own_block b j = let e : tail_elements + j - tail_elements ≡ j = omega arith in rw (le-ltb (tail_elements + j) tail_elements (omega arith), e)

-- how many of them: 141, or 142 where the client block lies in four elements
unfoldable pub listed_count : ℕ → ℕ
listed_count b = tail_elements + suc ((block_from b + 256) / element_bits - block_from b / element_bits)

-- the element by its FEC block and its local number
element_is : (b e : ℕ) → e % super_elements < fec_elements * fec_blocks → element_fec e ≡ fec_of b → e ≡ first_element b + element_local e
unfolding element_fec element_local
element_is b e h q =
    let f : fec_of b / fec_blocks ≡ e / super_elements = omega arith in
    let g : fec_of b % fec_blocks ≡ e % super_elements / fec_elements = omega arith in
    rw (f, g) (omega arith)

-- a local element that holds a touched bit is one of those
own_of : (b m : ℕ) → m < fec_elements → touches b (element_bits * m) element_bits ≡ true → In (own b) (listed_count b) m
unfolding listed_count
own_of b m h t = by (dec_lt m info_elements) (dec_lt m (block_from b / element_bits)) (dec_lt ((block_from b + 256) / element_bits) m)
  where
    by : Dec (m < info_elements) → Dec (m < block_from b / element_bits) → Dec ((block_from b + 256) / element_bits < m)
        → In (own b) (tail_elements + suc ((block_from b + 256) / element_bits - block_from b / element_bits)) m
    by (no l) x y =
        record { index = m - info_elements; within = omega arith; is = sym (own_tail b (m - info_elements) (omega arith) ∙ (omega arith)) }
    by (yes l) (yes x) y = absurd (clash t (element_before b m l x))
    by (yes l) (no x) (yes y) = absurd (clash t (element_past b m l y))
    by (yes l) (no x) (no y) =
        let j = m - block_from b / element_bits in record { index = tail_elements + j; within = omega arith; is = sym (own_block b j ∙ (omega arith)) }

pub local_lt : (e : ℕ) → element_local e < fec_elements
unfolding element_local
local_lt e = omega arith

-- so a listed word is the slot of one of those
pub listed_slot : (N b w : ℕ) → listed N b w ≡ true → In (slot_no b) (listed_count b) w
unfolding slot_no
listed_slot N b w h =
    let l = listed_holding N b w h in
    let e = element_in w in
    let t = l.touch in
    let i = own_of b (element_local e) (local_lt e) (touches_at b (element_bits * element_local e) element_bits t.bit t.within t.there) in
    record {
      index = i.index;
      within = i.within;
      is = sym (held N w l.element).back ∙ ap slot_of (element_is b e l.no_pad l.block ∙ ap (λ (m : ℕ). first_element b + m) i.is);
    }

pub listed_count_le : (b : ℕ) → listed_count b ≤ 142
unfolding listed_count
listed_count_le b = omega arith

pub listed_count_ge : (b : ℕ) → 141 ≤ listed_count b
unfolding listed_count
listed_count_ge b = omega arith

-- AT MOST 142, however far a pass has come
pub listed_few : (N b n : ℕ) → count (listed N b) n ≤ 142
listed_few N b n = omega (arith, listed_count_le b, count_few (slot_no b) (listed_count b) (listed N b) n (listed_slot N b))

-- ---- by the number of the element within the FEC block

-- local element m of FEC block c of super frame f
module _ (f c m : ℕ) (hc : c < fec_blocks) (hm : m < fec_elements) where
  at_mod : (super_elements * f + fec_elements * c + m) % super_elements ≡ fec_elements * c + m
  at_mod = omega arith

  at_div : (super_elements * f + fec_elements * c + m) / super_elements ≡ f
  at_div = omega arith

  at_fec : element_fec (super_elements * f + fec_elements * c + m) ≡ fec_blocks * f + c
  unfolding element_fec
  at_fec = rw (at_mod, at_div) (omega arith)

  at_local : element_local (super_elements * f + fec_elements * c + m) ≡ m
  unfolding element_local
  at_local = rw at_mod (omega arith)

pub own_element : (b m : ℕ) → m < fec_elements → (first_element b + m) % super_elements < fec_elements * fec_blocks
own_element b m h = rw (at_mod (fec_of b / fec_blocks) (fec_of b % fec_blocks) m (omega arith) h) (omega arith)

pub own_fec : (b m : ℕ) → m < fec_elements → (element_fec (first_element b + m) ≡ fec_of b) × (element_local (first_element b + m) ≡ m)
own_fec b m h =
    let fec = at_fec (fec_of b / fec_blocks) (fec_of b % fec_blocks) m (omega arith) h in
    let local = at_local (fec_of b / fec_blocks) (fec_of b % fec_blocks) m (omega arith) h in (fec ∙ (omega arith), local)

pub own_in : (N b m : ℕ) → b < blocks_of N → m < fec_elements → first_element b + m < super_elements * N
own_in N b m h l = omega arith

-- one of the client block's FEC block, or filler
module _ (N b w m : ℕ) (l : m < fec_elements) (e : element_in w ≡ first_element b + m) where
  listed_own : holds N w && touches b (element_bits * m) element_bits ≡ listed N b w
  unfolding listed
  listed_own =
      let f = own_fec b m l in
      let pad = no_pad_test (first_element b + m) (own_element b m l) in
      rw (e, pad, f.1, eq-eqb (element_fec (first_element b + m)) (fec_of b) f.0, and-true (holds N w), and-true (holds N w))

  listed_touched : touches b (element_bits * m) element_bits ≡ true → holds N w ≡ listed N b w
  listed_touched h = sym (and-true (holds N w)) ∙ rw (← h) listed_own

-- no element of that FEC block, or one that holds no touched bit
listed_none : (N b w : ℕ) → ((m : ℕ) → m < fec_elements → element_in w ≡ first_element b + m → touches b (element_bits * m) element_bits ≡ false) → false ≡ listed N b w
listed_none N b w n = by (listed N b w) refl
  where
    by : (t : Bool) → listed N b w ≡ t → false ≡ listed N b w
    by true h =
        let l = listed_holding N b w h in
        let e = element_in w in
        let t = l.touch in
        absurd (clash (touches_at b (element_bits * element_local e) element_bits t.bit t.within t.there)
        (n (element_local e) (local_lt e) (element_is b e l.no_pad l.block)))
    by false h = sym h

-- the two ranges of elements, as code asks them
le_cmp : (a b : ℕ) → is_le (nat_cmp a b) ≡ leb a b
le_cmp a b =
    by_bound b a (λ l. rw (← nat_cmp_is a b Less l, le-leb a b (omega arith)))
    (λ l. by_bound a b (λ m. rw (← nat_cmp_is a b Greater m, lt-leb a b m)) (λ m. rw (← nat_cmp_is a b Equal (omega arith), le-leb a b m)))

lt_cmp : (a b : ℕ) → is_lt (nat_cmp a b) ≡ ltb a b
lt_cmp a b =
    by_bound b a (λ l. rw (← nat_cmp_is a b Less l, lt-ltb a b l))
    (λ l. by_bound a b (λ m. rw (← nat_cmp_is a b Greater m, le-ltb a b l)) (λ m. rw (← nat_cmp_is a b Equal (omega arith), le-ltb a b l)))

in_range : (a z e : ℕ) {t : Bool} → t ≡ (is_le (nat_cmp a e) && is_lt (nat_cmp e z)) → (t ≡ true → (a ≤ e) × (e < z)) × (t ≡ false → a ≤ e → z ≤ e)
in_range a z e {t} p = (λ h. (leb-true a e (and_left (leb a e) (ltb e z) (sym q ∙ h)), ltb-true e z (and_right (leb a e) (ltb e z) (sym q ∙ h))), out)
  where
    q : t ≡ (leb a e && ltb e z)
    q = p ∙ rw (le_cmp a e, lt_cmp e z)

    out : t ≡ false → a ≤ e → z ≤ e
    out h l = by_bound z e (λ m. absurd (clash (q ∙ rw (le-leb a e l, lt-ltb e z m)) h)) (λ m. m)

pub tail_test : (b e : ℕ) {f : ℕ} {t : Bool} → f ≡ first_element b → t ≡ (is_le (nat_cmp (f + info_elements) e) && is_lt (nat_cmp e (f + fec_elements))) → InTail b e t
tail_test b e {f} p q =
    let r = in_range (f + info_elements) (f + fec_elements) e q in
    record {
      yes = λ h. let y = r.0 h in (omega (arith, p, y.0), omega (arith, p, y.1));
      no = λ h l. let z = r.1 h (omega (arith, p, l)) in omega (arith, p, z);
    }

pub block_test : (b e : ℕ) {f x y : ℕ} {t : Bool} → f ≡ first_element b → x ≡ block_from b / element_bits
    → y ≡ (block_from b + (block_bits - 1)) / element_bits + 1 → t ≡ (is_le (nat_cmp (f + x) e) && is_lt (nat_cmp e (f + y))) → InBlock b e t
block_test b e {f} {x} {y} p i j q =
    let r = in_range (f + x) (f + y) e q in
    record {
      yes = λ h. let k = r.0 h in (omega (arith, p, i, k.0), omega (arith, p, j, k.1));
      no = λ h l. let z = r.1 h (omega (arith, p, i, l)) in omega (arith, p, j, z);
    }

-- how code tests it, by the number of the element
module _ (N b w e : ℕ) (q : e ≡ element_in w) where
  pub listed_tail : {t : Bool} → InTail b e t → t ≡ true → holds N w ≡ listed N b w
  listed_tail i h =
      let y = i.yes h in
      let m = e - first_element b in
      listed_touched N b w m (omega (arith, y.1)) (omega (arith, q, y.0)) (element_tail b m (omega (arith, y.0)))

  pub listed_block : {t : Bool} → InBlock b e t → t ≡ true → holds N w ≡ listed N b w
  listed_block i h =
      let y = i.yes h in
      let m = e - first_element b in
      listed_touched N b w m (omega (arith, y.1)) (omega (arith, q, y.0)) (element_block b m (omega (arith, y.0)) (omega (arith, y.1)))

  pub listed_neither : {t u : Bool} → InTail b e t → t ≡ false → InBlock b e u → u ≡ false → false ≡ listed N b w
  listed_neither i h j k =
      listed_none N b w (λ m l p. by_bound info_elements m (λ x. by_bound (block_from b / element_bits) m (element_before b m x)
      (λ y. let z = j.no k (omega (arith, q, p)) in element_past b m x (omega (arith, q, p, z))))
      (λ x. let z = i.no h (omega (arith, q, p)) in absurd (lt_irrefl _ (let c : m < m = omega (arith, q, p, z, l) in c))))

-- ---- the stretch of words that can be listed

own_from : (b k : ℕ) → k < listed_count b → (block_from b / element_bits ≤ own b k) × (own b k < fec_elements)
unfolding listed_count
own_from b k h = by (dec_lt k tail_elements)
  where
    by : Dec (k < tail_elements) → (block_from b / element_bits ≤ own b k) × (own b k < fec_elements)
    by (yes l) = rw (own_tail b k l) (omega arith, omega arith)
    by (no l) =
        let e : k ≡ tail_elements + (k - tail_elements) = omega arith in
        rw e (rw (own_block b (k - tail_elements)) (omega arith, omega arith))

pub record Within (b w : ℕ) : Type 0 where
  pub above : stretch_from b ≤ w
  pub below : w < stretch_to b

pub listed_within : (N b w : ℕ) → listed N b w ≡ true → Within b w
unfolding slot_no slot_of delay
listed_within N b w h =
    let i = listed_slot N b w h in
    let o = own_from b i.index i.within in
    record { above = omega (arith, i.is, o.0, o.1); below = omega (arith, i.is, o.0, o.1) }

pub listed_outside : (N b w : ℕ) → (Within b w → ⊥) → listed N b w ≡ false
listed_outside N b w n = by (listed N b w) refl
  where
    by : (t : Bool) → listed N b w ≡ t → listed N b w ≡ false
    by true h = absurd (n (listed_within N b w h))
    by false h = h

-- between the client block's elements and the tail
own_beside : (b k : ℕ) → k < listed_count b → (own b k ≤ (block_from b + (block_bits - 1)) / element_bits) ⊎ (info_elements ≤ own b k)
unfolding listed_count
own_beside b k h = by (dec_lt k tail_elements)
  where
    by : Dec (k < tail_elements) → (own b k ≤ (block_from b + (block_bits - 1)) / element_bits) ⊎ (info_elements ≤ own b k)
    by (yes l) = inr (rw (own_tail b k l) (omega arith))
    by (no l) =
        let e : k ≡ tail_elements + (k - tail_elements) = omega arith in
        inl (rw e (rw (own_block b (k - tail_elements)) (omega arith)))

pub listed_between : (N b w : ℕ) → Between b w → listed N b w ≡ false
unfolding slot_no slot_of delay
listed_between N b w n = by (listed N b w) refl
  where
    by : (t : Bool) → listed N b w ≡ t → listed N b w ≡ false
    by true h =
        let i = listed_slot N b w h in
        absurd (⊎_elim (λ l. omega (arith, i.is, l, n.behind)) (λ l. omega (arith, i.is, l, n.before)) (own_beside b i.index i.within))
    by false h = h

pub fails_between : (N b : ℕ) (cap : List ℕ) (w : ℕ) → Between b w → fails N b cap w ≡ false
fails_between N b cap w n = sym (fails_unlisted N b cap w (listed_between N b w n))

pub fails_outside : (N b : ℕ) (cap : List ℕ) (w : ℕ) → (Within b w → ⊥) → fails N b cap w ≡ false
fails_outside N b cap w n = sym (fails_unlisted N b cap w (listed_outside N b w n))

pub stretch_within : (N b : ℕ) → b < blocks_of N → stretch_to b ≤ words N
stretch_within N b h = omega arith

-- the first word that fails, of the two stretches that are searched one after the other
module _ (N b : ℕ) (cap : List ℕ) (held : b < blocks_of N) {from to : ℕ} (own : OwnWords b from to) where
  abbrev fail : ℕ → Bool
  fail = fails N b cap

  before_own : (k : ℕ) → k < from → fail k ≡ false
  before_own k l = fails_outside N b cap k (λ i. omega (arith, own.start, i.above, l))

  pub found_own : {i : ℕ} → FirstIn fail from to (Some i) → Some i ≡ first_found fail (words N)
  unfolding first_found
  found_own {i} f =
      let l : i < words N = omega (arith, f.1, own.within, stretch_within N b held) in
      rw (first_is fail i (words N) (λ k m. by_bound from k (before_own k) (λ q. f.3 k q m)) l f.2, lt-ltb i (words N) l)

  pub found_behind : {r : Option ℕ} → FirstIn fail from to None → FirstIn fail (first_element b + info_elements) (stretch_to b) r
      → r ≡ first_found fail (words N)
  unfolding first_found
  found_behind {r = Some i} f g =
      let l : i < words N = omega (arith, g.1, stretch_within N b held) in
      rw (first_is fail i (words N) (λ k m. until f k (λ q. g.3 k q m)) l g.2, lt-ltb i (words N) l)
    where
      until : FirstIn fail from to None → (k : ℕ) → (first_element b + info_elements ≤ k → fail k ≡ false) → fail k ≡ false
      until f k q =
          by_bound from k (before_own k) (λ m. by_bound to k (f k m)
          (λ n. by_bound (first_element b + info_elements) k (λ l. fails_between N b cap k (own.over k n l)) q))
  found_behind {r = None} f g =
      rw (
        first_none fail (words N) (λ k l. by_bound from k (before_own k) (λ m. by_bound to k (f k m)
            (λ n. by_bound (first_element b + info_elements) k (λ l. fails_between N b cap k (own.over k n l))
            (λ q. by_bound (stretch_to b) k (g k q) (λ z. fails_outside N b cap k (λ i. omega (arith, i.below, z))))))),
        le-ltb (words N) (words N) (omega arith),
      )
