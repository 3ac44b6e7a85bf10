-- The order of the bytes of a capture. What it is to lay words out and to take one is said of any order; the line's order is one of
-- them, and the only place where it is written out. Assumes nothing: these are definitions.
use Rattle.std.specs.Prelude.{ℕ, ◌+◌, ◌*◌, ◌/◌, ◌%◌, List, get_or}
use Rattle.prelude.specs.Lists.{tabulate}
use Rattle.sizes.specs.Sizes.{word_bytes, group_words, capture_length, group_size}

-- ---- any order

-- symbol k of word w stands at byte `place w k`; at byte b stands symbol `symbol b` of word `word b`
pub record Order : Type 0 where
  pub place : ℕ → ℕ → ℕ
  pub word : ℕ → ℕ
  pub symbol : ℕ → ℕ

-- byte b of the words W laid out, and l bytes of them
unfoldable pub byte_by : Order → (ℕ → List ℕ) → ℕ → ℕ
byte_by o W b = get_or (W (o.word b)) (o.symbol b) 0

unfoldable pub laid_by : Order → ℕ → (ℕ → List ℕ) → List ℕ
laid_by o l W = tabulate l (byte_by o W)

-- symbol k of word w of a capture, and the word's sixteen bytes; zeros past the end
unfoldable pub symbol_by : Order → List ℕ → ℕ → ℕ → ℕ
symbol_by o cap w k = get_or cap (o.place w k) 0

unfoldable pub word_by : Order → List ℕ → ℕ → List ℕ
word_by o cap w = tabulate word_bytes (symbol_by o cap w)

-- ---- the line's order. "Eight words interleave: symbol k of word w stands at capture byte 128·floor(w/8) + 8·k + (w mod 8)" (document 01;
-- 001 section 11.1)

unfoldable pub symbol_place : ℕ → ℕ → ℕ
symbol_place w k = group_size * (w / group_words) + group_words * k + w % group_words

unfoldable pub word_at : ℕ → ℕ
word_at b = group_words * (b / group_size) + b % group_words

unfoldable pub symbol_at : ℕ → ℕ
symbol_at b = b % group_size / group_words

-- one to one on the words of a capture: `line_order_law` of proofs/OrderLaws.antt
unfoldable pub the_line_order : Order
the_line_order = record { place = symbol_place; word = word_at; symbol = symbol_at }

-- the capture of N super frames with the words W, and word w of a capture
abbrev pub laid : ℕ → (ℕ → List ℕ) → List ℕ
laid N W = laid_by the_line_order (capture_length N) W

abbrev pub word_in : List ℕ → ℕ → List ℕ
word_in cap w = word_by the_line_order cap w
