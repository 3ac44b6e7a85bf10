-- `hamming::encode` meets its contract: the check bits are those that add what the 119 bits add (`word_closed`). Assumes nothing.
use Prim.Native.Nat.{ℕ, ◌%◌, ◌<◌}
use mathlib.Core.Path.{ap, ◌∙◌}
use native.Mathlib.Nat.{mod-eq_of_lt}
use Rattle.sizes.specs.Sizes.{check_values}
use Rattle.bits.proofs.Packing.{bit_of_lt}
use Rattle.bits.specs.Bits.{bit_at}
use Rattle.hamming_matrix.specs.Sums.{tail_of}
use Rattle.hamming.specs.Code.{checks_of, joined_word}
use Rattle.hamming_matrix.proofs.Matrix.{tail_lt}
use Rattle.hamming.proofs.Words.{checks_lt}
use Rattle.hamming.proofs.ByBytes.{word_closed}
use Rattle.hamming.proofs.encode.Goals as goal

pub tail-requires : goal.tail-requires
tail-requires c = rw c.checks.ensures (checks_lt c.join.result)

pub returns : goal.returns
returns c = let e = c.args.e in
    let small : c.checks.result < check_values = rw c.checks.ensures (checks_lt c.join.result) in
    c.join-2.ensures
    ∙ ap (λ (p : ℕ). joined_word (bit_at e) (p % check_values)) c.tail.ensures
    ∙ ap (joined_word (bit_at e)) (mod-eq_of_lt (tail_lt c.checks.result small) ∙ ap tail_of (c.checks.ensures ∙ ap checks_of c.join.ensures))
    ∙ word_closed (bit_at e) (bit_of_lt 8 e)
