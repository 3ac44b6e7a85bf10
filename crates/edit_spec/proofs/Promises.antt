-- What an edit promises: which words are listed, and how many; what every word holds afterwards.
-- Assumes nothing.
use Prim.Native.Nat.{ℕ, ◌+◌, ◌-◌, ◌*◌, ◌/◌, ◌<◌}
use mathlib.Core.Bool.{true, false}
use mathlib.Core.Path.{◌≡◌, sym, ap, ◌∙◌}
use mathlib.Core.List.{List}
use native.Mathlib.Omega.{arith}
use lib.ListN.{get_or}
use Rattle.prelude.specs.Loops.{count}
use Rattle.prelude.proofs.Common.{by_bound}
use Rattle.sizes.specs.Sizes.{element_bits, fec_elements, info_elements, capture_length, words, blocks_of, tail_elements}
use Rattle.line.specs.Slots.{slot_of, element_in}
use Rattle.line_order.specs.Order.{word_at, symbol_at, word_in}
use Rattle.line.specs.Words.{words_of, fec_in}
use Rattle.line.proofs.SlotLaws.{element_slot, slot_lt, slot_once, holds_slot}
use Rattle.line_order.proofs.OrderLaws.{word-laid, word_lt, byte_word}
use Rattle.edit_spec.specs.Edit.{block_from, edited_fec, element_local, touches, listed, list_of, edited_word, edited_capture}
use Rattle.edit_spec.specs.Listed.{Lists}
use Rattle.edit_spec.specs.Steps.{first_element}
use Rattle.edit_spec.proofs.Touching.{element_tail, element_block, touches_some}
use Rattle.edit_spec.proofs.Picking.{length-picked, picked_entry, picked_rises, picked_room, picked_has, count_few, count_many}
use Rattle.edit_spec.proofs.Listing.{own, own_in, own_element, own_fec, own_tail, own_block, slot_no, listed_count, listed_slot, listed_count_ge}
use Rattle.edit_spec.proofs.Listing.{listed_count_le, holding_listed}
use Rattle.edit_spec.proofs.Passes.{edited_long, edited_kept}

-- ---- the list

-- each of the numbered local elements holds a touched bit, and they differ
own_lt : (b k : ℕ) → k < listed_count b → own b k < fec_elements
unfolding listed_count
own_lt b k h =
    by_bound tail_elements k (λ l. rw (own_tail b k l) (omega arith))
    (λ l. let e : k ≡ tail_elements + (k - tail_elements) = omega arith in rw (e, own_block b (k - tail_elements)) (omega arith))

own_touched : (b k : ℕ) → k < listed_count b → touches b (element_bits * own b k) element_bits ≡ true
unfolding listed_count
own_touched b k h =
    by_bound tail_elements k (λ l. rw (own_tail b k l) (element_tail b (info_elements + k) (omega arith)))
    (λ l. let e : k ≡ tail_elements + (k - tail_elements) = omega arith in
    rw (e, own_block b (k - tail_elements)) (element_block b (block_from b / element_bits + (k - tail_elements)) (omega arith) (omega arith)))

own_differ : (b i j : ℕ) → i < j → j < listed_count b → own b i ≡ own b j → ⊥
unfolding listed_count
own_differ b i j h l q =
    by_bound tail_elements j
    (λ m. let p = own_tail b i (omega arith) in let r = own_tail b j m in omega (arith, p, r))
    (λ m. let e : j ≡ tail_elements + (j - tail_elements) = omega arith in
    let r : own b j ≡ block_from b / element_bits + (j - tail_elements) = ap (own b) e ∙ own_block b (j - tail_elements) in
    by_bound tail_elements i (λ n. let p = own_tail b i n in omega (arith, p, r))
    (λ n. let d : i ≡ tail_elements + (i - tail_elements) = omega arith in
    let p : own b i ≡ block_from b / element_bits + (i - tail_elements) = ap (own b) d ∙ own_block b (i - tail_elements) in
    omega (arith, p, r)))

module _ (N b : ℕ) (within : b < blocks_of N) where
  slot_listed : (k : ℕ) → k < listed_count b → (slot_no b k < words N) × (listed N b (slot_no b k) ≡ true)
  unfolding slot_no
  slot_listed k h =
      let m = own_lt b k h in
      let e = first_element b + own b k in
      let x = own_in N b (own b k) within m in
      let y = own_fec b (own b k) m in
      let t : touches b (element_bits * element_local (element_in (slot_of e))) element_bits ≡ true = rw (element_slot e, y.1) (own_touched b k h) in (
        slot_lt N e (x),
        holding_listed N b (slot_of e) (record {
          element = holds_slot N e (x);
          no_pad = rw (element_slot e) (own_element b (own b k) m);
          block = rw (element_slot e) y.0;
          touch = touches_some b (element_bits * element_local (element_in (slot_of e))) element_bits t;
        }),
      )

  slots_differ : (i j : ℕ) → i < j → j < listed_count b → slot_no b i ≡ slot_no b j → ⊥
  unfolding slot_no
  slots_differ i j h l q = own_differ b i j h l (let s = slot_once (first_element b + own b i) (first_element b + own b j) q in omega (arith, s))

  -- HOW MANY: 138 for CRC and parity, and the three or four elements of the client block
  pub listed_exactly : count (listed N b) (words N) ≡ listed_count b
  listed_exactly =
      let few = count_few (slot_no b) (listed_count b) (listed N b) (words N) (listed_slot N b) in
      let many = count_many (slot_no b) (listed_count b) (listed N b) (words N) slot_listed slots_differ in
      omega arith

-- THE LIST
pub list_is : (N b : ℕ) → b < blocks_of N → Lists N b (list_of N b)
unfolding list_of
list_is N b h =
    let p = listed N b in
    let n = words N in
    let e = length-picked p n in
    let c = listed_exactly N b h in
    record {
      long = e;
      at_least = omega (arith, e, c, listed_count_ge b);
      at_most = omega (arith, e, c, listed_count_le b);
      rises = λ i j l m. picked_rises p n i j l (rw (length-picked p n) at m);
      only = λ i l. let r = picked_entry p n i (rw (length-picked p n) at l) in (r.below, r.picks);
      each = λ w l q. (rw (length-picked p n) (picked_room p n w l q), picked_has p n w l q);
    }

-- ---- the words, in any capture

module _ (N b : ℕ) (bits parity cap : List ℕ) where
  word_after : (w : ℕ) → w < words N → word_in (edited_capture N b bits parity cap) w ≡ edited_word N b bits parity cap w
  unfolding edited_capture
  word_after w h = word-laid N (edited_word N b bits parity cap) w h (edited_long N b bits parity cap w)

  -- a listed word is the word of the edited FEC block, check bits and all
  pub word_edited : (w : ℕ) → w < words N → listed N b w ≡ true → word_in (edited_capture N b bits parity cap) w ≡ words_of N
      (edited_fec b bits parity (fec_in (word_in cap))) w
  unfolding edited_word
  word_edited w h e = word_after w h ∙ rw e

  -- every other word keeps every byte
  pub word_kept : (w : ℕ) → w < words N → listed N b w ≡ false → word_in (edited_capture N b bits parity cap) w ≡ word_in cap w
  word_kept w h e = word_after w h ∙ edited_kept N b bits parity cap w e

  pub byte_kept : (i : ℕ) → i < capture_length N → listed N b (word_at i) ≡ false → get_or (edited_capture N b bits parity cap) i 0 ≡ get_or cap i 0
  byte_kept i h e =
      sym (byte_word N (edited_capture N b bits parity cap) i h)
      ∙ ap (λ (v : List ℕ). get_or v (symbol_at i) 0) (word_kept (word_at i) (word_lt N i h) e)
      ∙ byte_word N cap i h
