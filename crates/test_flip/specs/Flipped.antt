-- A capture with bits of a word flipped. Assumes nothing: these are definitions.
use Rattle.std.specs.Prelude.{ℕ, ◌+◌, ◌*◌, ◌/◌, ◌%◌, ◌^◌, List, length, set, replicate}
use Rattle.bits.specs.Bits.{bit_at, pack, added}
use Rattle.prelude.specs.Loops.{upto}
use Rattle.sizes.specs.Sizes.{word_bytes}
use Rattle.line_order.specs.Steps.{put_word}
use Rattle.line_order.specs.Order.{word_in}

-- word w takes in the word v, bit by bit and without carries; past the end nothing changes
unfoldable pub flipped_word : ℕ → List ℕ → List ℕ → List ℕ
flipped_word w v cap = put_word cap w (pack word_bytes (added (bit_at (word_in cap w)) (bit_at v)))

-- the word that has bit i only, the top bit of a byte being 128; none where i is past its 128 bits
unfoldable pub bit_alone : ℕ → List ℕ
bit_alone i = set (replicate word_bytes 0) (i / 8) (128 / 2 ^ (i % 8))

-- bit 37 w + 11, modulo 128, of word w
unfoldable pub flipped_once : ℕ → List ℕ → List ℕ
flipped_once w cap = flipped_word w (bit_alone ((37 * w + 11) % 128)) cap

-- that bit of each word
unfoldable pub flipped_in_all : List ℕ → List ℕ
flipped_in_all cap = upto flipped_once cap (length cap / word_bytes)
