-- The length of n zeros, over n: at a length of a million it is used as it stands, and nothing is computed. Assumes nothing.
use Prim.Native.Nat.{ℕ}
use mathlib.Core.Path.{◌≡◌, sym}
use lib.ListN.{length, replicate, length-replicate}

pub many : (n : ℕ) → n ≡ length {A = ℕ} (replicate n 0)
many n = sym (length-replicate n 0)
