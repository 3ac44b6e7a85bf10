-- What a granted number of super frames says. Assumes nothing.
use Prim.Native.Nat.{ℕ, ◌≤◌}
use mathlib.Core.Bool.{Bool, true, false, not, ◌&&◌}
use mathlib.Core.Path.{◌≡◌, sym, ◌∙◌}
use borrow.Author.Tests.{leb-true, le-leb, not-false}
use lib.Dec.{leb}
use Rattle.sizes.specs.Sizes.{most_frames}
use Rattle.prelude.proofs.Common.{and_left, and_right}
use Rattle.line.specs.Captures.{super_allowed}

pub record SuperFrames (N : ℕ) : Type 0 where
  pub some : 1 ≤ N
  pub few : N ≤ most_frames

pub super_frames : (N : ℕ) → super_allowed N ≡ true → SuperFrames N
unfolding super_allowed
super_frames N e = record {
  some = leb-true 1 N (and_left (leb 1 N) (leb N most_frames) e);
  few = leb-true N most_frames (and_right (leb 1 N) (leb N most_frames) e);
}

-- a call asked whether N and another number are in their sets, and was not refused
pub frames_in : (N : ℕ) (b : Bool) {asked : Bool} → asked ≡ super_allowed N && b → not asked ≡ false → SuperFrames N
frames_in N b e left = super_frames N (and_left (super_allowed N) b (sym e ∙ not-false _ left))

-- the other way: where both are in their sets it is not refused
pub in_frames : (N : ℕ) {b : Bool} → super_allowed N ≡ true → b ≡ true → not (super_allowed N && b) ≡ false
in_frames N p q = rw (p, q)

-- every number from 1 to 8 is allowed
pub all_frames : (N : ℕ) → 1 ≤ N → N ≤ most_frames → super_allowed N ≡ true
unfolding super_allowed
all_frames N h l = rw (le-leb 1 N h, le-leb N most_frames l)
