-- `hamming::join` meets its contract: the two bytes that hold the check bits (`join_set`). Assumes nothing.
use Prim.Native.Nat.{◌%◌}
use native.Mathlib.Omega.{arith}
use mir.Syntax.{w8}
use mir.Val.{Fits}
use lib.ListN.{get_or}
use Rattle.sizes.specs.Sizes.{check_values}
use Rattle.bits.specs.Bits.{Bytes}
use Rattle.hamming.proofs.ByBytes.{join_set}
use Rattle.hamming.proofs.join.Goals.{Start}
use borrow.Author.Rules.{rules}
use Rattle.hamming.proofs.join.Goals as goal

bytes : (c : Start) → Bytes c.args.e
bytes c k = let f : Fits w8 (get_or c.args.e k 0) = search rules in f.fits

pub overflow_mul-w : goal.overflow_mul-w
overflow_mul-w c = omega (arith, bytes c 14)

pub overflow_add-w : goal.overflow_add-w
overflow_add-w c = omega (arith, bytes c 14)

pub returns : goal.returns
returns c = join_set c.args.e (c.args.p % check_values) (search rules) (bytes c) (omega arith)
