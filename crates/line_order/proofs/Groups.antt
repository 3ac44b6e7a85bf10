-- Eight words as a group: laid out and taken back, and a group as a part of a capture. Assumes nothing.
use Prim.Native.Nat.{ℕ, ◌*◌, ◌<◌}
use mathlib.Core.Path.{◌≡◌, refl, sym, ap, ◌∙◌}
use mathlib.Core.List.{List, []}
use lib.ListN.{length, get_or}
use Rattle.prelude.specs.Lists.{tabulate, from_index}
use Rattle.prelude.specs.Loops.{upto}
use Rattle.prelude.proofs.Lists.{get_d_tabulate, tabulate_ext, is_table}
use Rattle.sizes.specs.Sizes.{word_bytes, group_words, group_size}
use Rattle.line_order.specs.Order.{byte_by, laid_by, word_by, word_at, symbol_at, the_line_order}
use Rattle.line_order.specs.Steps.{replace_by, group_word, laid_group, taken_group, OneToOne}
use Rattle.line_order.proofs.OrderLaws.{word-laid_by, laid_by_ext, laid_by-words, each_laid_by, line_order_law, word_group, symbol_group}

eight : OneToOne the_line_order group_words
eight = line_order_law group_words refl

-- laid out and taken back
pub taken_laid : (words : List (List ℕ)) → length words ≡ group_words → ((w : ℕ) → w < group_words → length (group_word words w) ≡ word_bytes)
    → taken_group (laid_group words) ≡ words
taken_laid words long sixteen =
    sym (is_table [] group_words (word_by the_line_order (laid_group words)) words long
    (λ w h. sym (word-laid_by the_line_order group_words group_size eight refl (group_word words) w h (sixteen w h))))

-- taken and laid out again
pub laid_taken : (s : List ℕ) → length s ≡ group_size → laid_group (taken_group s) ≡ s
laid_taken s long =
    laid_by_ext the_line_order group_words group_size eight refl (group_word (taken_group s)) (word_by the_line_order s)
    (λ w h. get_d_tabulate [] group_words (word_by the_line_order s) w h)
    ∙ laid_by-words the_line_order group_words group_size eight refl s long

-- how code lays a group out: the words are put one after the other, whatever stood there
pub group_put : (words : List (List ℕ)) (s : List ℕ) → length s ≡ group_size
    → upto (replace_by the_line_order (λ w v. group_word words w)) s group_words ≡ laid_group words
group_put words s long = each_laid_by the_line_order group_words group_size eight refl (λ w v. group_word words w) s long

-- group g of the words W is a part of them laid out
pub group_laid : (W : ℕ → List ℕ) (g : ℕ)
    → laid_group (tabulate group_words (from_index W (group_words * g))) ≡ tabulate group_size (from_index (byte_by the_line_order W) (group_size * g))
unfolding laid_by byte_by the_line_order
group_laid W g =
    tabulate_ext group_size (byte_by the_line_order (group_word (tabulate group_words (from_index W (group_words * g))))) (from_index (byte_by the_line_order W) (group_size * g))
    (λ b h. rw (word_group g b, symbol_group g b)
    (ap (λ (v : List ℕ). get_or v (symbol_at b) 0) (get_d_tabulate [] group_words (from_index W (group_words * g)) (word_at b) (eight_of b h))))
  where
    eight_of : (b : ℕ) → b < group_size → word_at b < group_words
    eight_of b h = eight.word_lt b h
