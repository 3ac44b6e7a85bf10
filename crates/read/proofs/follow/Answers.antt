-- `read::follow` meets its contract. Assumes nothing.
use Prim.Native.Nat.{◌+◌, ◌*◌, ◌/◌, ◌%◌}
use mathlib.Core.Path.{◌≡◌, ap, ◌∙◌}
use native.Mathlib.Omega.{arith}
use mir.Syntax.{w8}
use mir.Val.{Fits}
use lib.ListN.{get_or}
use Rattle.sizes.specs.Sizes.{check_bits, check_values}
use Rattle.bits.specs.Bits.{num, bit_at, Bytes}
use Rattle.hamming.specs.Code.{joined_word}
use Rattle.read_spec.proofs.Pieces.{nine_of}
use Rattle.read.proofs.follow.Goals.{Start}
use borrow.Author.Rules.{rules}
use Rattle.read.proofs.follow.Goals as goal

bytes_b : (c : Start) → Bytes c.args.b
bytes_b c k = let f : Fits w8 (get_or c.args.b k 0) = search rules in f.fits

pub returns : goal.returns
returns c = let x = c.wide.ensures in
    let y = c.wide-2.ensures in
    let p = c.wide.result * 2 + c.wide-2.result / 128 in
    let e : p ≡ num check_bits (bit_at c.args.b) 0 = rw (x.same, y.same) (nine_of c.args.b (bytes_b (goal.at.returns c).Start)) in
    let small : p % check_values ≡ p = omega (arith, x.small, y.small) in
    c.join.ensures ∙ ap (joined_word (bit_at c.args.a)) (small ∙ e)
