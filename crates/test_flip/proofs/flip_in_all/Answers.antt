-- `test_flip::flip_in_all` meets its contract: the words are taken one after the other. Assumes nothing.
use Prim.Native.Nat.{ℕ, ◌+◌, ◌*◌, ◌/◌, ◌%◌}
use mathlib.Core.Path.{◌≡◌, refl, sym, ap, ◌∙◌}
use mathlib.Core.List.{List}
use native.Mathlib.Nat.{mul-add-mod_self_left}
use native.Mathlib.Omega.{arith}
use Rattle.prelude.proofs.LoopLaws.{folded_none, folded_more, folded_all}
use Rattle.test_flip.specs.Flipped.{bit_alone, flipped_word, flipped_once, flipped_in_all}
use borrow.Author.Rules.{rules}
use Rattle.test_flip.proofs.flip_in_all.Goals as goal

-- the bit is taken from the number of the word below 128, so that no product overflows
reduced : (w : ℕ) → (w % 128 * 37 + 11) % 128 ≡ (37 * w + 11) % 128
reduced w =
    let e : 37 * w + 11 ≡ 128 * (37 * (w / 128)) + (w % 128 * 37 + 11) = omega arith in
    sym (ap (λ (n : ℕ). n % 128) e ∙ mul-add-mod_self_left 128 (37 * (w / 128)) (w % 128 * 37 + 11))

-- a turn of the loop
once : {left v : List ℕ} (w : ℕ) (cap : List ℕ) → v ≡ bit_alone ((w % 128 * 37 + 11) % 128) → left ≡ flipped_word w v cap → left ≡ flipped_once w cap
unfolding flipped_once
once w cap p q = rw (q, p, reduced w)

pub loop-w-init : goal.loop-w-init
loop-w-init c = (folded_none, refl, omega arith)

pub loop-w-preserved : goal.loop-w-preserved
loop-w-preserved c = let i = c.loop-w in (
  folded_more i.invariant.0 (once i.w _ c.bit.ensures c.flip.ensures),
  search rules,
  omega arith,
)

pub shape_of-capture : goal.shape_of-capture
shape_of-capture c = c.loop-w.invariant.1

pub returns : goal.returns
unfolding flipped_in_all
returns c = folded_all _ c.loop-w.invariant.0 c.loop-w.invariant.2 c.loop-w-test.false
