-- From an element to its word, from words to their group, from groups to the capture. Assumes nothing.
use Prim.Native.Nat.{ℕ, ◌+◌, ◌*◌, ◌%◌}
use mathlib.Core.Bool.{true, false}
use mathlib.Core.Path.{◌≡◌, sym, ap, ◌∙◌}
use mathlib.Core.List.{List}
use native.Mathlib.Omega.{arith}
use lib.ListN.{length, replicate}
use Rattle.prelude.specs.Lists.{tabulate, from_index}
use Rattle.bits.specs.Bits.{bit_at, pack, added}
use Rattle.hamming_matrix.specs.Steps.{tail_table}
use Rattle.line_order.specs.Steps.{laid_group}
use Rattle.hamming_table.specs.Steps.{byte_table, word_by_tables}
use Rattle.hamming.proofs.Words.{coded_ext, coded_zero}
use Rattle.hamming_table.proofs.Tabled.{by_word}
use Rattle.scrambler.specs.Scrambler.{o}
use Rattle.scrambling.specs.Steps.{Agree, one_period, frame_place, period_place}
use Rattle.scrambling.proofs.Adding.{scrambled_bit}
use Rattle.line_order.specs.Order.{byte_by, the_line_order}
use Rattle.line_order.proofs.Groups.{group_laid}
use Rattle.line_order.proofs.OrderLaws.{length-laid}
use Rattle.sizes.specs.Sizes.{group_words, capture_length, word_bytes, group_size}
use Rattle.line.specs.Fec.{fec_bit}
use Rattle.line.specs.Frames.{super_of, element_of}
use Rattle.line.specs.Slots.{element_in, holds, slot_bit}
use Rattle.line.specs.Words.{words_of}
use Rattle.line.proofs.SlotLaws.{filler_bit, held_bit}
use Rattle.code.specs.Code.{capture_of}
use Rattle.code.specs.Steps.{plain_bit}

-- ---- words

pub word_filler : (N : ℕ) (F : ℕ → ℕ → ℕ) (w : ℕ) → holds N w ≡ false → replicate word_bytes 0 ≡ words_of N F w
unfolding words_of
word_filler N F w h =
    sym (coded_ext (slot_bit N (element_of (super_of F)) w) (λ i. 0) (λ i l. filler_bit N (element_of (super_of F)) w i h) ∙ coded_zero)

-- a coded capture has its length
pub capture_long : (N m0 : ℕ) (info par : List ℕ) → length (capture_of N m0 info par) ≡ capture_length N
unfolding capture_of
capture_long N m0 info par = length-laid N (words_of N (fec_bit m0 info par))

module _ (N : ℕ) (F : ℕ → ℕ → ℕ) (w e : ℕ) (sequence table tails plain scrambled r : List ℕ) where
  pub word_held : holds N w ≡ true → e ≡ element_in w → sequence ≡ one_period → table ≡ byte_table → tails ≡ tail_table
      → Agree (bit_at plain) (plain_bit F e) → scrambled ≡ pack word_bytes (added (bit_at plain) (from_index (bit_at sequence) (period_place e)))
      → r ≡ word_by_tables table tails scrambled → r ≡ words_of N F w
  unfolding words_of element_of plain_bit
  word_held h pe ps pt pl a pa pr =
      pr ∙ by_word table tails scrambled pt pl
      ∙ coded_ext (bit_at scrambled) (slot_bit N (element_of (super_of F)) w)
      (λ i l. scrambled_bit sequence plain scrambled e i ps pa (omega arith)
      ∙ ap (λ (x : ℕ). (x + o (frame_place e + i)) % 2) (a i l)
      ∙ ap (λ (x : ℕ). element_of (super_of F) x i) pe
      ∙ sym (held_bit N (element_of (super_of F)) w i h))

-- ---- groups

-- what was copied into the group's part of the capture is a part of the words laid out
pub group_left : (W : ℕ → List ℕ) (g k : ℕ) (ws : List (List ℕ)) (bytes ys : List ℕ) → k ≡ group_size → ws ≡ tabulate group_words (from_index W (group_words * g))
    → bytes ≡ laid_group ws → ys ≡ bytes → ys ≡ tabulate k (from_index (byte_by the_line_order W) (group_size * g))
group_left W g k ws bytes ys p pw pb py = rw p (py ∙ pb ∙ ap laid_group pw ∙ group_laid W g)
