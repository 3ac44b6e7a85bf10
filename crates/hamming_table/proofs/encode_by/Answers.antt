-- `hamming_table::encode_by` meets its contract: what the callees say, put together. Assumes nothing.
use Prim.Native.Nat.{ℕ, ◌%◌}
use mathlib.Core.Path.{ap, ◌∙◌}
use lib.ListN.{get_or}
use Rattle.sizes.specs.Sizes.{check_values}
use Rattle.bits.specs.Bits.{bit_at}
use Rattle.hamming.specs.Code.{joined_word}
use Rattle.hamming_table.specs.Steps.{sum_by_tables, word_by_tables}
use Rattle.hamming_table.proofs.encode_by.Goals as goal

pub returns : goal.returns
unfolding word_by_tables
returns c = let a = c.args in
    c.join-2.ensures
    ∙ ap (λ (x : ℕ). joined_word (bit_at a.e) (x % check_values))
    (c.entry_at.ensures ∙ ap (λ (i : ℕ). get_or a.tails.now i 0) (c.checks_by.ensures ∙ ap (sum_by_tables a.t.now) c.join.ensures))
