-- `demands::flip_bits` meets its contract: the words are taken one after the other. Assumes nothing.
use Prim.Native.Nat.{ℕ}
use mathlib.Core.Path.{◌≡◌, refl}
use mathlib.Core.List.{List}
use native.Mathlib.Omega.{arith}
use Rattle.prelude.proofs.LoopLaws.{folded_none, folded_more, folded_all}
use Rattle.line_order.specs.Order.{word_in, the_line_order}
use Rattle.demand_laws.specs.Demand2.{flip_if}
use Rattle.demands.specs.Demands.{flips_of}
use Rattle.demands.specs.Steps.{flipped_by, flipped_bytes}
use Rattle.line_order.specs.Steps.{put_word, replace_by}
use borrow.Author.Rules.{rules}
use Rattle.demands.proofs.flip_bits.Goals as goal

-- a turn of the loop
once : {x v out : List ℕ} {p : ℕ} (flips cap : List ℕ) (w : ℕ) → x ≡ word_in cap w → p ≡ flips_of flips w → v ≡ flip_if x p → out ≡ put_word cap w v
    → out ≡ replace_by the_line_order (flipped_by flips) w cap
unfolding replace_by
once flips cap w px pp pv e = rw (e, pv, pp, px)

pub loop-w-init : goal.loop-w-init
loop-w-init c = (folded_none, refl, omega arith)

pub loop-w-preserved : goal.loop-w-preserved
loop-w-preserved c = let a = c.args in (
  folded_more c.loop-w.invariant.0
      (once a.flips.now _ c.loop-w.w c.word_in.ensures c.flip_of.ensures c.flip_word-v.ensures c.put_word.ensures),
  search rules,
  omega arith,
)

pub shape_of-capture : goal.shape_of-capture
shape_of-capture c = c.loop-w.invariant.1

pub returns : goal.returns
unfolding flipped_bytes
returns c = folded_all _ c.loop-w.invariant.0 c.loop-w.invariant.2 c.loop-w-test.false
