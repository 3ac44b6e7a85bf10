-- The pass that makes the listed words anew: where it starts, one word, where it ends. Assumes nothing.
use Prim.Native.Nat.{ℕ, zero, suc, ◌+◌, ◌-◌, ◌≤◌, ◌<◌}
use mathlib.Core.Bool.{Bool, true, false, cond}
use mathlib.Core.Path.{◌≡◌, refl, sym, ap, ap₂, ◌∙◌}
use mathlib.Core.List.{List, ◌++◌}
use native.Mathlib.Nat.{add-zero, add-suc}
use native.Mathlib.Numerals.{add-one}
use native.Mathlib.Omega.{arith}
use lib.ListN.{length, set, drop, length-append, length-drop}
use Rattle.prelude.specs.Loops.{count}
use Rattle.hamming.proofs.Words.{coded_long}
use Rattle.sizes.specs.Sizes.{capture_length, words, list_length, word_bytes, info_elements, blocks_of}
use Rattle.line.specs.Frames.{super_of, element_of}
use Rattle.line.specs.Slots.{slot_bit}
use Rattle.line_order.specs.Order.{laid, word_in}
use Rattle.line.specs.Words.{words_of, fec_in}
use Rattle.line_order.proofs.OrderLaws.{done_here, done_past, done_step, done_same, length-laid, length-word, word-laid, laid_ext, laid_words, put_laid}
use Rattle.edit_spec.specs.Edit.{fec_of, crc_change, edited_fec, listed, picked, list_of, edited_word, edited_capture}
use Rattle.edit_spec.specs.Steps.{first_element, stretch_to, OwnWords, remade, mixed, listing, Passing, WordPassed}
use Rattle.edit_spec.proofs.Picking.{length-picked, picked_no, picked_set, count_yes, count_no}
use Rattle.edit_spec.proofs.Listing.{listed_few, listed_outside, listed_between, stretch_within}
use Rattle.line_order.specs.Steps.{put_word, changed}
use Rattle.edit_spec.proofs.Remaking.{word_made}

-- ---- the words so far

pub edited_long : (N b : ℕ) (bits parity cap : List ℕ) (x : ℕ) → length (edited_word N b bits parity cap x) ≡ word_bytes
unfolding edited_word words_of
edited_long N b bits parity cap x = by (listed N b x)
  where
    by : (t : Bool) → length (cond t (words_of N (edited_fec b bits parity (fec_in (word_in cap))) x) (word_in cap x)) ≡ word_bytes
    by true = coded_long (slot_bit N (element_of (super_of (edited_fec b bits parity (fec_in (word_in cap))))) x)
    by false = length-word cap x

-- a word that is not listed stays
pub edited_kept : (N b : ℕ) (bits parity cap : List ℕ) (w : ℕ) → listed N b w ≡ false → edited_word N b bits parity cap w ≡ word_in cap w
unfolding edited_word
edited_kept N b bits parity cap w e = rw e

module _ (N b : ℕ) (bits parity cap : List ℕ) where
  abbrev mix : ℕ → ℕ → List ℕ
  mix = mixed N b bits parity cap

  -- this word is as it was received
  mixed_here : (w : ℕ) → w < words N → word_in (laid N (mix w)) w ≡ word_in cap w
  mixed_here w h =
      let e = done_past w w (edited_word N b bits parity cap) (word_in cap) (omega arith) in
      word-laid N (mix w) w h (ap length e ∙ length-word cap w) ∙ e

  mixed_put : (w : ℕ) (v : List ℕ) → w < words N → v ≡ edited_word N b bits parity cap w → put_word (laid N (mix w)) w v ≡ laid N (mix (suc w))
  mixed_put w v h e =
      ap (put_word (laid N (mix w)) w) e ∙ put_laid N (mix w) w (edited_word N b bits parity cap w) h
      ∙ laid_ext N (changed (mix w) w (edited_word N b bits parity cap w)) (mix (suc w)) (λ x l. done_step w x (edited_word N b bits parity cap) (word_in cap))

  mixed_skip : (w : ℕ) → listed N b w ≡ false → laid N (mix w) ≡ laid N (mix (suc w))
  mixed_skip w e =
      laid_ext N (mix w) (mix (suc w)) (λ x l. done_same w x (edited_word N b bits parity cap) (word_in cap) (edited_kept N b bits parity cap w e))

-- ---- the list so far

listing_long : (N b : ℕ) (list : List ℕ) (w : ℕ) → length list ≡ list_length → length (listing N b list w) ≡ list_length
unfolding listing
listing_long N b list w e =
    rw (length-append (picked (listed N b) w) (drop (count (listed N b) w) list), length-picked (listed N b) w, length-drop (count (listed N b) w) list)
    (omega (arith, listed_few N b w))

listing_set : (N b : ℕ) (list : List ℕ) (w : ℕ) → length list ≡ list_length → listed N b w ≡ true
    → set (listing N b list w) (count (listed N b) w) w ≡ listing N b list (suc w)
unfolding listing
listing_set N b list w e h = picked_set (listed N b) w list h (omega (arith, listed_few N b w))

listing_skip : (N b : ℕ) (list : List ℕ) (w : ℕ) → listed N b w ≡ false → listing N b list w ≡ listing N b list (suc w)
unfolding listing
listing_skip N b list w h = rw (picked_no (listed N b) w h, count_no (listed N b) w h)

-- ---- the pass

module _ (N b : ℕ) (bits parity cap₀ list₀ : List ℕ) where
  pub passing_start : length cap₀ ≡ capture_length N → Passing N b bits parity cap₀ list₀ 0 cap₀ list₀ 0
  unfolding listing picked count
  passing_start e = record {
    capture =
        sym (laid_ext N (mixed N b bits parity cap₀ 0) (word_in cap₀) (λ x l. done_past 0 x (edited_word N b bits parity cap₀) (word_in cap₀) (omega arith))
        ∙ laid_words N cap₀ e);
    entries = refl;
    counted = refl;
  }

  -- the buffers keep their lengths, and there is room for one entry more
  pub passing_long : {w c : ℕ} {cap list : List ℕ} → Passing N b bits parity cap₀ list₀ w cap list c → length cap ≡ capture_length N
  passing_long {w} p = rw p.capture (length-laid N (mixed N b bits parity cap₀ w))

  pub passing_entries : {w c : ℕ} {cap list : List ℕ} → Passing N b bits parity cap₀ list₀ w cap list c → length list₀ ≡ list_length → length list ≡ list_length
  passing_entries {w} p e = rw p.entries (listing_long N b list₀ w e)

  pub passing_few : {w c : ℕ} {cap list : List ℕ} → Passing N b bits parity cap₀ list₀ w cap list c → c ≤ 142
  passing_few {w} p = rw p.counted (listed_few N b w)

  passing_listed : (w crc c : ℕ) (cap list : List ℕ) → listed N b w ≡ true → Passing N b bits parity cap₀ list₀ w cap list c → w < words N
      → length list₀ ≡ list_length → crc ≡ crc_change b bits (fec_in (word_in cap₀) (fec_of b))
      → Passing N b bits parity cap₀ list₀ (suc w) (put_word cap w (remade b bits parity crc w (word_in cap w))) (set list c w) (c + 1)
  passing_listed w crc c cap list t p h e q =
      let old : word_in cap w ≡ word_in cap₀ w = rw p.capture (mixed_here N b bits parity cap₀ w h) in
      let s = laid N (mixed N b bits parity cap₀ w) in
      let v = remade b bits parity crc w (word_in cap w) in
      record {
        capture = ap (λ (x : List ℕ). put_word x w v) p.capture ∙ mixed_put N b bits parity cap₀ w v h
            (word_made N b bits parity cap₀ w crc (word_in cap w) t q old);
        entries = ap₂ (λ (x : List ℕ) (i : ℕ). set x i w) p.entries p.counted ∙ listing_set N b list₀ w e t;
        counted = ap (λ (i : ℕ). i + 1) p.counted ∙ add-one (count (listed N b) w) ∙ sym (count_yes (listed N b) w t);
      }

  passing_other : (w c : ℕ) (cap list : List ℕ) → listed N b w ≡ false → Passing N b bits parity cap₀ list₀ w cap list c
      → Passing N b bits parity cap₀ list₀ (suc w) cap list c
  passing_other w c cap list t p = record {
    capture = p.capture ∙ mixed_skip N b bits parity cap₀ w t;
    entries = p.entries ∙ listing_skip N b list₀ w t;
    counted = p.counted ∙ sym (count_no (listed N b) w t);
  }

  -- words that are not listed need no step
  pub passing_skip : {w c : ℕ} {cap list : List ℕ} (v : ℕ) → w ≤ v → ((x : ℕ) → w ≤ x → x < v → listed N b x ≡ false)
      → Passing N b bits parity cap₀ list₀ w cap list c → Passing N b bits parity cap₀ list₀ v cap list c
  passing_skip {w} {c} {cap} {list} v h n p =
      let e : v ≡ w + (v - w) = omega arith in
      rw e (on (v - w) (λ x l m. n x l (omega arith)))
    where
      on : (k : ℕ) → ((x : ℕ) → w ≤ x → x < w + k → listed N b x ≡ false) → Passing N b bits parity cap₀ list₀ (w + k) cap list c
      on zero m = rw (add-zero w) p
      on (suc k) m = rw (add-suc w k) (passing_other (w + k) c cap list (m (w + k) (omega arith) (omega arith)) (on k (λ x l q. m x l (omega arith))))

  -- a turn of the loop
  pub passing_word : {w crc c c' : ℕ} {cap list cap' list' : List ℕ} → Passing N b bits parity cap₀ list₀ w cap list c
      → WordPassed N b bits parity crc w c cap list cap' list' c'
      → w < words N → length list₀ ≡ list_length → crc ≡ crc_change b bits (fec_in (word_in cap₀) (fec_of b))
      → Passing N b bits parity cap₀ list₀ (w + 1) cap' list' c'
  passing_word {w} {crc} {c} {c'} {cap} {list} {cap'} {list'} p t h e q =
      rw (add-one w, t.capture, t.entries, t.counted) (by (listed N b w) refl)
    where
      by : (x : Bool) → listed N b w ≡ x → Passing N b bits parity cap₀ list₀ (suc w)
          (cond x (put_word cap w (remade b bits parity crc w (word_in cap w))) cap) (cond x (set list c w) list) (cond x (c + 1) c)
      by true i = passing_listed w crc c cap list i p h e q
      by false i = passing_other w c cap list i p

  -- the two stretches: before the first, between them and behind them no word is listed
  pub passing_own : {from to : ℕ} → OwnWords b from to → length cap₀ ≡ capture_length N → Passing N b bits parity cap₀ list₀ from cap₀ list₀ 0
  passing_own {from} o e = passing_skip from (omega arith) (λ x l m. listed_outside N b x (λ i. omega (arith, o.start, i.above, m))) (passing_start e)

  pub passing_between : {from to c : ℕ} {cap list : List ℕ} → OwnWords b from to → Passing N b bits parity cap₀ list₀ to cap list c
      → Passing N b bits parity cap₀ list₀ (first_element b + info_elements) cap list c
  passing_between o p = passing_skip (first_element b + info_elements) o.within (λ x l m. listed_between N b x (o.over x l m)) p

  pub passing_behind : {c : ℕ} {cap list : List ℕ} → b < blocks_of N → Passing N b bits parity cap₀ list₀ (stretch_to b) cap list c
      → Passing N b bits parity cap₀ list₀ (words N) cap list c
  passing_behind h p = passing_skip (words N) (stretch_within N b h) (λ x l m. listed_outside N b x (λ i. omega (arith, i.below, l))) p

  -- where the pass ends
  pub passing_capture : {c : ℕ} {cap list : List ℕ} → Passing N b bits parity cap₀ list₀ (words N) cap list c → cap ≡ edited_capture N b bits parity cap₀
  unfolding edited_capture
  passing_capture p =
      p.capture
      ∙ laid_ext N (mixed N b bits parity cap₀ (words N)) (edited_word N b bits parity cap₀)
      (λ x l. done_here (words N) x (edited_word N b bits parity cap₀) (word_in cap₀) l)

  pub passing_list : {c : ℕ} {cap list : List ℕ} → Passing N b bits parity cap₀ list₀ (words N) cap list c
      → list ≡ list_of N b ++ drop (count (listed N b) (words N)) list₀
  unfolding list_of listing
  passing_list p = p.entries

-- ---- how code passes a word

module _ (N b : ℕ) (bits parity : List ℕ) (crc w c : ℕ) (cap list : List ℕ) where
  pub word_passed_yes : (v cap' : List ℕ) → listed N b w ≡ true → v ≡ remade b bits parity crc w (word_in cap w) → cap' ≡ put_word cap w v
      → WordPassed N b bits parity crc w c cap list cap' (set list c w) (c + 1)
  word_passed_yes v cap' h q e =
      record { capture = rw (h, e, q); entries = rw h; counted = rw h }

  pub word_passed_no : listed N b w ≡ false → WordPassed N b bits parity crc w c cap list cap list c
  word_passed_no h = record { capture = rw h; entries = rw h; counted = rw h }
