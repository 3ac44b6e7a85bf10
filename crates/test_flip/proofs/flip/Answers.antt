-- `test_flip::flip` meets its contract: the sum of the word and v is put back. Assumes nothing.
use Prim.Native.Nat.{ℕ}
use mathlib.Core.Path.{◌≡◌}
use mathlib.Core.List.{List}
use Rattle.bits.specs.Bits.{bit_at, pack, added}
use Rattle.sizes.specs.Sizes.{word_bytes}
use Rattle.line_order.specs.Order.{word_in}
use Rattle.test_flip.specs.Flipped.{flipped_word}
use Rattle.line_order.specs.Steps.{put_word}
use Rattle.test_flip.proofs.flip.Goals as goal

flips_word : {x s out : List ℕ} (cap : List ℕ) (w : ℕ) (v : List ℕ) → x ≡ word_in cap w → s ≡ pack word_bytes (added (bit_at x) (bit_at v))
    → out ≡ put_word cap w s → out ≡ flipped_word w v cap
unfolding flipped_word
flips_word cap w v p q r = rw (r, q, p)

pub returns : goal.returns
returns c = let a = c.args in
    flips_word a.capture.now a.w a.v c.word_in.ensures c.sum.ensures c.put_word.ensures
