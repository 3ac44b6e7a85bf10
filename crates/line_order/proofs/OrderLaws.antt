-- The laws of laying words out, of taking one and of putting one back, once for every order that is one to one; then the line's order,
-- which is. Assumes nothing.
use Prim.Native.Nat.{ℕ, zero, suc, ◌+◌, ◌*◌, ◌/◌, ◌%◌, ◌≤◌, ◌<◌}
use mathlib.Core.Bool.{Bool, true, false, cond}
use mathlib.Core.Path.{◌≡◌, refl, sym, ap, ap₂, ◌∙◌}
use mathlib.Core.List.{List}
use native.Mathlib.Nat.{not-suc-le-zero}
use native.Mathlib.Decide.{ℕ_discrete}
use native.Mathlib.Omega.{arith}
use borrow.Author.Tests.{lt-ltb, le-ltb, eq-eqb, ne_eqb}
use lib.Dec.{lit<, eqb}
use lib.ListN.{length, get_or, set, length-set}
use lib.Seq.{get_or-set_same, get_or-set_other}
use Rattle.bits.specs.Bits.{Bytes}
use Rattle.prelude.specs.Loops.{upto}
use Rattle.prelude.proofs.Common.{by_bound}
use Rattle.prelude.proofs.Lists.{length-tabulate, get_d_tabulate, get_d_past, tabulate_ext, is_table}
use Rattle.sizes.specs.Sizes.{word_bytes, group_words, capture_length, words, group_size}
use Rattle.sizes.proofs.Equations.{capture_words}
use Rattle.line_order.specs.Order.{Order, byte_by, laid_by, symbol_by, word_by, symbol_place, word_at, symbol_at, the_line_order, laid, word_in}
use Rattle.line_order.specs.Steps.{put_symbol_by, put_by, replace_by, changed, done_to, put_word, OneToOne}

-- ---- words changed, one or those below k

choose : (t : Bool) (v x : List ℕ) (k : ℕ) → cond t (get_or v k 0) (get_or x k 0) ≡ get_or (cond t v x) k 0
choose true v x k = refl
choose false v x k = refl

pub done_here : (k x : ℕ) (X W : ℕ → List ℕ) → x < k → done_to k X W x ≡ X x
unfolding done_to
done_here k x X W h = rw (lt-ltb x k h)

pub done_past : (k x : ℕ) (X W : ℕ → List ℕ) → k ≤ x → done_to k X W x ≡ W x
unfolding done_to
done_past k x X W h = rw (le-ltb x k h)

-- one more: no other word is changed by it, and none where the two words at k are the same
done_other : (k x : ℕ) (X W : ℕ → List ℕ) → (x ≡ k → ⊥) → done_to k X W x ≡ done_to (suc k) X W x
done_other k x X W ne =
    by_bound k x (λ h. done_here k x X W h ∙ sym (done_here (suc k) x X W (omega arith)))
    (λ h. done_past k x X W h ∙ sym (done_past (suc k) x X W (omega arith)))

pub done_step : (k x : ℕ) (X W : ℕ → List ℕ) → changed (done_to k X W) k (X k) x ≡ done_to (suc k) X W x
unfolding changed
done_step k x X W = by (ℕ_discrete x k)
  where
    by : Dec (x ≡ k) → cond (eqb x k) (X k) (done_to k X W x) ≡ done_to (suc k) X W x
    by (yes e) = rw (eq-eqb x k e) (ap X (sym e) ∙ sym (done_here (suc k) x X W (omega arith)))
    by (no ne) = rw (ne_eqb x k ne) (done_other k x X W ne)

pub done_same : (k x : ℕ) (X W : ℕ → List ℕ) → X k ≡ W k → done_to k X W x ≡ done_to (suc k) X W x
done_same k x X W same = by (ℕ_discrete x k)
  where
    by : Dec (x ≡ k) → done_to k X W x ≡ done_to (suc k) X W x
    by (yes e) =
        done_past k x X W (omega arith) ∙ ap W e ∙ sym same ∙ ap X (sym e) ∙ sym (done_here (suc k) x X W (omega arith))
    by (no ne) = done_other k x X W ne

-- ---- any order: lengths and symbols

module _ (o : Order) where
  pub length-laid_by : (l : ℕ) (W : ℕ → List ℕ) → length (laid_by o l W) ≡ l
  unfolding laid_by
  length-laid_by l W = length-tabulate l (byte_by o W)

  laid_by_at : (l : ℕ) (W : ℕ → List ℕ) (b : ℕ) → b < l → get_or (laid_by o l W) b 0 ≡ get_or (W (o.word b)) (o.symbol b) 0
  unfolding laid_by byte_by
  laid_by_at l W b h = get_d_tabulate 0 l (byte_by o W) b h

  pub length-word_by : (cap : List ℕ) (w : ℕ) → length (word_by o cap w) ≡ word_bytes
  unfolding word_by
  length-word_by cap w = length-tabulate word_bytes (symbol_by o cap w)

  pub word-symbol_by : (cap : List ℕ) (w k : ℕ) → k < word_bytes → get_or (word_by o cap w) k 0 ≡ get_or cap (o.place w k) 0
  unfolding word_by symbol_by
  word-symbol_by cap w k h = get_d_tabulate 0 word_bytes (symbol_by o cap w) k h

  -- the bytes of a word of bytes are bytes
  pub word_bytes_by : (cap : List ℕ) (w : ℕ) → Bytes cap → Bytes (word_by o cap w)
  unfolding word_by symbol_by
  word_bytes_by cap w h k =
      by_bound word_bytes k (λ l. rw (get_d_tabulate 0 word_bytes (symbol_by o cap w) k l) (h (o.place w k)))
      (λ l. rw (get_d_past 0 word_bytes (symbol_by o cap w) k l) (lit< tt))

  put_length : (cap : List ℕ) (w : ℕ) (v : List ℕ) (k : ℕ) → length (upto (put_symbol_by o w v) cap k) ≡ length cap
  unfolding upto put_symbol_by
  put_length cap w v zero = refl
  put_length cap w v (suc k) = length-set (upto (put_symbol_by o w v) cap k) (o.place w k) (get_or v k 0) ∙ put_length cap w v k

  pub length-put_by : (cap : List ℕ) (w : ℕ) (v : List ℕ) → length (put_by o cap w v) ≡ length cap
  unfolding put_by
  length-put_by cap w v = put_length cap w v word_bytes

-- ---- an order that is one to one on n words, and captures of these words, which have l bytes

module _ (o : Order) (n l : ℕ) (one : OneToOne o n) (fits : l ≡ word_bytes * n) where
  -- the words of what was laid are the words
  pub word-laid_by : (W : ℕ → List ℕ) (w : ℕ) → w < n → length (W w) ≡ word_bytes → word_by o (laid_by o l W) w ≡ W w
  unfolding word_by symbol_by
  word-laid_by W w h len =
      sym (is_table 0 word_bytes (symbol_by o (laid_by o l W) w) (W w) len
      (λ k m. sym (laid_by_at o l W (o.place w k) (rw fits (one.place_lt w k h m))
      ∙ ap₂ (λ (x y : ℕ). get_or (W x) y 0) (one.word_at_law w k h m) (one.symbol_at_law w k h m))))

  -- equal words make equal captures
  pub laid_by_ext : (W X : ℕ → List ℕ) → ((w : ℕ) → w < n → W w ≡ X w) → laid_by o l W ≡ laid_by o l X
  unfolding laid_by byte_by
  laid_by_ext W X h =
      tabulate_ext l (byte_by o W) (byte_by o X) (λ b m. ap (λ (s : List ℕ). get_or s (o.symbol b) 0) (h (o.word b) (one.word_lt b (rw fits at m))))

  -- a byte of a capture is a symbol of one of its words
  pub byte_word_by : (cap : List ℕ) (b : ℕ) → b < l → get_or (word_by o cap (o.word b)) (o.symbol b) 0 ≡ get_or cap b 0
  byte_word_by cap b h =
      let m : b < word_bytes * n = rw fits at h in
      word-symbol_by o cap (o.word b) (o.symbol b) (one.symbol_lt b m) ∙ ap (λ (x : ℕ). get_or cap x 0) (one.place_back b m)

  -- a capture is what its words make
  pub laid_by-words : (cap : List ℕ) → length cap ≡ l → laid_by o l (word_by o cap) ≡ cap
  unfolding laid_by byte_by
  laid_by-words cap len = sym (is_table 0 l (byte_by o (word_by o cap)) cap len (λ b h. sym (byte_word_by cap b h)))

  module _ (cap : List ℕ) (w : ℕ) (v : List ℕ) (h : w < n) where
    abbrev put : ℕ → List ℕ
    put k = upto (put_symbol_by o w v) cap k

    -- a byte of another word stays
    put_other : (k b : ℕ) → k ≤ word_bytes → (o.word b ≡ w → ⊥) → get_or (put k) b 0 ≡ get_or cap b 0
    unfolding upto put_symbol_by
    put_other zero b m ne = refl
    put_other (suc k) b m ne =
        get_or-set_other (put k) (o.place w k) b (get_or v k 0) 0 (λ q. ne (ap o.word q ∙ one.word_at_law w k h (omega arith)))
        ∙ put_other k b (omega arith) ne

    -- the symbols put so far
    put_here : (k j : ℕ) → k ≤ word_bytes → j < k → o.place w j < length cap → get_or (put k) (o.place w j) 0 ≡ get_or v j 0
    unfolding upto put_symbol_by
    put_here zero j m i q = absurd (not-suc-le-zero i)
    put_here (suc k) j m i q = by (ℕ_discrete j k) (λ r. put_here k j (omega arith) r q)
      where
        by : Dec (j ≡ k) → (j < k → get_or (put k) (o.place w j) 0 ≡ get_or v j 0)
            → get_or (set (put k) (o.place w k) (get_or v k 0)) (o.place w j) 0 ≡ get_or v j 0
        by (yes e) r = rw (← e) (get_or-set_same (put j) (o.place w j) (get_or v j 0) 0 (rw (put_length o cap w v j) q))
        by (no ne) r =
            get_or-set_other (put k) (o.place w k) (o.place w j) (get_or v k 0) 0
            (λ e. ne (sym (one.symbol_at_law w j h (omega arith)) ∙ ap o.symbol e ∙ one.symbol_at_law w k h (omega arith)))
            ∙ r (omega arith)

    -- each byte after a word was put
    pub put_byte_by : (b : ℕ) → length cap ≡ l → b < l → get_or (put_by o cap w v) b 0 ≡ cond (eqb (o.word b) w) (get_or v (o.symbol b) 0) (get_or cap b 0)
    unfolding put_by
    put_byte_by b len i = by (ℕ_discrete (o.word b) w)
      where
        m : b < word_bytes * n
        m = rw fits at i

        back : o.word b ≡ w → o.place w (o.symbol b) ≡ b
        back e = ap (λ (x : ℕ). o.place x (o.symbol b)) (sym e) ∙ one.place_back b m

        by : Dec (o.word b ≡ w) → get_or (put word_bytes) b 0 ≡ cond (eqb (o.word b) w) (get_or v (o.symbol b) 0) (get_or cap b 0)
        by (yes e) =
            rw (eq-eqb (o.word b) w e)
            (ap (λ (x : ℕ). get_or (put word_bytes) x 0) (sym (back e))
            ∙ put_here word_bytes (o.symbol b) (omega arith) (one.symbol_lt b m) (rw (back e, len) i))
        by (no ne) = rw (ne_eqb (o.word b) w ne) (put_other word_bytes b (omega arith) ne)

  -- a word put into what was laid: the other words stay
  pub put_laid_by : (W : ℕ → List ℕ) (w : ℕ) (v : List ℕ) → w < n → put_by o (laid_by o l W) w v ≡ laid_by o l (changed W w v)
  unfolding laid_by byte_by changed
  put_laid_by W w v h =
      is_table 0 l (byte_by o (changed W w v)) (put_by o (laid_by o l W) w v) (length-put_by o (laid_by o l W) w v ∙ length-laid_by o l W)
      (λ b m. put_byte_by (laid_by o l W) w v h b (length-laid_by o l W) m
      ∙ ap (λ (x : ℕ). cond (eqb (o.word b) w) (get_or v (o.symbol b) 0) x) (laid_by_at o l W b m)
      ∙ choose (eqb (o.word b) w) v (W (o.word b)) (o.symbol b))

  -- each word in turn is replaced by what is made of it
  module _ (f : ℕ → List ℕ → List ℕ) (cap : List ℕ) (len : length cap ≡ l) where
    abbrev old : ℕ → List ℕ
    old w = word_by o cap w

    abbrev new : ℕ → List ℕ
    new w = f w (old w)

    one_turn : (k : ℕ) → k < n → replace_by o f k (laid_by o l (done_to k new old)) ≡ laid_by o l (done_to (suc k) new old)
    unfolding replace_by
    one_turn k h =
        let e = done_past k k new old (omega arith) in
        rw (word-laid_by (done_to k new old) k h (rw e (length-word_by o cap k)), e)
        (put_laid_by (done_to k new old) k (new k) h ∙ laid_by_ext (changed (done_to k new old) k (new k)) (done_to (suc k) new old) (λ x i. done_step k x new old))

    turns : (k : ℕ) → k ≤ n → upto (replace_by o f) cap k ≡ laid_by o l (done_to k new old)
    unfolding upto
    turns zero h = sym (laid_by_ext (done_to 0 new old) old (λ x i. done_past 0 x new old (omega arith)) ∙ laid_by-words cap len)
    turns (suc k) h = ap (replace_by o f k) (turns k (omega arith)) ∙ one_turn k h

    pub each_laid_by : upto (replace_by o f) cap n ≡ laid_by o l new
    each_laid_by = turns n (omega arith) ∙ laid_by_ext (done_to n new old) new (λ x h. done_here n x new old h)

-- ---- the line's order: the word and the symbol of a byte, and the byte of a symbol of a word

pub word_at_law : (w k : ℕ) → k < word_bytes → word_at (symbol_place w k) ≡ w
unfolding word_at symbol_place
word_at_law w k h =
    let p : (group_size * (w / group_words) + group_words * k + w % group_words) / group_size ≡ w / group_words = omega arith in
    let q : (group_size * (w / group_words) + group_words * k + w % group_words) % group_words ≡ w % group_words = omega arith in
    rw (p, q) (omega arith)

pub symbol_at_law : (w k : ℕ) → k < word_bytes → symbol_at (symbol_place w k) ≡ k
unfolding symbol_at symbol_place
symbol_at_law w k h =
    let p : (group_size * (w / group_words) + group_words * k + w % group_words) % group_size ≡ group_words * k + w % group_words = omega arith in
    rw p (omega arith)

pub place_back : (b : ℕ) → symbol_place (word_at b) (symbol_at b) ≡ b
unfolding symbol_place word_at symbol_at
place_back b =
    let p : (group_words * (b / group_size) + b % group_words) / group_words ≡ b / group_size = omega arith in
    let q : (group_words * (b / group_size) + b % group_words) % group_words ≡ b % group_words = omega arith in
    rw (p, q) (omega arith)

pub symbol_lt : (b : ℕ) → symbol_at b < word_bytes
unfolding symbol_at
symbol_lt b = omega arith

place_low : (n w k : ℕ) → n % group_words ≡ 0 → w < n → k < word_bytes → symbol_place w k < word_bytes * n
unfolding symbol_place
place_low n w k e h m = omega arith

word_few : (n b : ℕ) → n % group_words ≡ 0 → b < word_bytes * n → word_at b < n
unfolding word_at
word_few n b e h = omega arith

-- ONE TO ONE on every whole number of groups
pub line_order_law : (n : ℕ) → n % group_words ≡ 0 → OneToOne the_line_order n
unfolding the_line_order
line_order_law n e = record {
  place_lt = λ w k h m. place_low n w k e h m;
  word_lt = λ b h. word_few n b e h;
  symbol_lt = λ b h. symbol_lt b;
  word_at_law = λ w k h m. word_at_law w k m;
  symbol_at_law = λ w k h m. symbol_at_law w k m;
  place_back = λ b h. place_back b;
}

-- it goes on from group to group as it began
pub place_group : (w k : ℕ) → group_size * (w / group_words) + symbol_place (w % group_words) k ≡ symbol_place w k
unfolding symbol_place
place_group w k = omega arith

pub word_group : (g b : ℕ) → word_at (group_size * g + b) ≡ group_words * g + word_at b
unfolding word_at
word_group g b = omega arith

pub symbol_group : (g b : ℕ) → symbol_at (group_size * g + b) ≡ symbol_at b
unfolding symbol_at
symbol_group g b = let p : (group_size * g + b) % group_size ≡ b % group_size = omega arith in rw p

-- ---- the line's order: captures and words

pub length-word : (cap : List ℕ) (w : ℕ) → length (word_in cap w) ≡ word_bytes
length-word = length-word_by the_line_order

pub word-symbol : (cap : List ℕ) (w k : ℕ) → k < word_bytes → get_or (word_in cap w) k 0 ≡ get_or cap (symbol_place w k) 0
unfolding the_line_order
word-symbol = word-symbol_by the_line_order

pub word_bytes_law : (cap : List ℕ) (w : ℕ) → Bytes cap → Bytes (word_in cap w)
word_bytes_law = word_bytes_by the_line_order

module _ (N : ℕ) where
  one : OneToOne the_line_order (words N)
  one = line_order_law (words N) (omega arith)

  pub place_lt : (w k : ℕ) → w < words N → k < word_bytes → symbol_place w k < capture_length N
  unfolding the_line_order
  place_lt w k h m = rw (capture_words N) (one.place_lt w k h m)

  pub word_lt : (b : ℕ) → b < capture_length N → word_at b < words N
  unfolding the_line_order
  word_lt b h = one.word_lt b (rw (capture_words N) at h)

  pub length-laid : (W : ℕ → List ℕ) → length (laid N W) ≡ capture_length N
  length-laid = length-laid_by the_line_order (capture_length N)

  pub word-laid : (W : ℕ → List ℕ) (w : ℕ) → w < words N → length (W w) ≡ word_bytes → word_in (laid N W) w ≡ W w
  word-laid = word-laid_by the_line_order (words N) (capture_length N) one (capture_words N)

  pub laid_ext : (W X : ℕ → List ℕ) → ((w : ℕ) → w < words N → W w ≡ X w) → laid N W ≡ laid N X
  laid_ext = laid_by_ext the_line_order (words N) (capture_length N) one (capture_words N)

  pub byte_word : (cap : List ℕ) (b : ℕ) → b < capture_length N → get_or (word_in cap (word_at b)) (symbol_at b) 0 ≡ get_or cap b 0
  unfolding the_line_order
  byte_word = byte_word_by the_line_order (words N) (capture_length N) one (capture_words N)

  pub laid_words : (cap : List ℕ) → length cap ≡ capture_length N → laid N (word_in cap) ≡ cap
  laid_words = laid_by-words the_line_order (words N) (capture_length N) one (capture_words N)

  pub put_laid : (W : ℕ → List ℕ) (w : ℕ) (v : List ℕ) → w < words N → put_word (laid N W) w v ≡ laid N (changed W w v)
  put_laid = put_laid_by the_line_order (words N) (capture_length N) one (capture_words N)

  pub each_laid : (f : ℕ → List ℕ → List ℕ) (cap : List ℕ) → length cap ≡ capture_length N
      → upto (replace_by the_line_order f) cap (words N) ≡ laid N (λ w. f w (word_in cap w))
  each_laid = each_laid_by the_line_order (words N) (capture_length N) one (capture_words N)
