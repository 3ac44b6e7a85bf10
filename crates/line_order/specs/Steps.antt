-- What the code does with the order: a word is put into a capture, and eight words are a group of 128 bytes. Assumes nothing: these are definitions.
use Rattle.std.specs.Prelude.{ℕ, ◌*◌, ◌<◌, cond, ◌≡◌, List, [], ltb, eqb, get_or, set}
use Rattle.prelude.specs.Lists.{tabulate}
use Rattle.prelude.specs.Loops.{upto}
use Rattle.sizes.specs.Sizes.{word_bytes, group_words, group_size}
use Rattle.line_order.specs.Order.{Order, laid_by, word_by, the_line_order}

-- on n words of sixteen bytes each symbol has a byte of its own, and each byte is one symbol's
pub record OneToOne (o : Order) (n : ℕ) : Type 0 where
  pub place_lt : (w k : ℕ) → w < n → k < word_bytes → o.place w k < word_bytes * n
  pub word_lt : (b : ℕ) → b < word_bytes * n → o.word b < n
  pub symbol_lt : (b : ℕ) → b < word_bytes * n → o.symbol b < word_bytes
  pub word_at_law : (w k : ℕ) → w < n → k < word_bytes → o.word (o.place w k) ≡ w
  pub symbol_at_law : (w k : ℕ) → w < n → k < word_bytes → o.symbol (o.place w k) ≡ k
  pub place_back : (b : ℕ) → b < word_bytes * n → o.place (o.word b) (o.symbol b) ≡ b

-- the word v put into a capture as word w, symbol by symbol; past the end nothing changes
unfoldable pub put_symbol_by : Order → ℕ → List ℕ → ℕ → List ℕ → List ℕ
put_symbol_by o w v k cap = set cap (o.place w k) (get_or v k 0)

unfoldable pub put_by : Order → List ℕ → ℕ → List ℕ → List ℕ
put_by o cap w v = upto (put_symbol_by o w v) cap word_bytes

-- word w of a capture replaced by what f makes of it
unfoldable pub replace_by : Order → (ℕ → List ℕ → List ℕ) → ℕ → List ℕ → List ℕ
replace_by o f w cap = put_by o cap w (f w (word_by o cap w))

-- the words W with v for word w; and the words X below k with the words W from there on
unfoldable pub changed : (ℕ → List ℕ) → ℕ → List ℕ → ℕ → List ℕ
changed W w v x = cond (eqb x w) v (W x)

unfoldable pub done_to : ℕ → (ℕ → List ℕ) → (ℕ → List ℕ) → ℕ → List ℕ
done_to k X W x = cond (ltb x k) (X x) (W x)

-- the same in the line's order
abbrev pub put_word : List ℕ → ℕ → List ℕ → List ℕ
put_word cap w v = put_by the_line_order cap w v

-- ---- eight words as a group: a capture that has only these

-- word w of eight
abbrev pub group_word : List (List ℕ) → ℕ → List ℕ
group_word words w = get_or words w []

abbrev pub laid_group : List (List ℕ) → List ℕ
laid_group words = laid_by the_line_order group_size (group_word words)

-- and back
abbrev pub taken_group : List ℕ → List (List ℕ)
taken_group s = tabulate group_words (word_by the_line_order s)
