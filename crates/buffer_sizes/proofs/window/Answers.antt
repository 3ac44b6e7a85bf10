-- `buffer_sizes::window` meets its contract: the laws `beyond` and `within`. Assumes nothing.
use native.Mathlib.Omega.{arith}
use Rattle.sizes.specs.Sizes.{places, window_bytes}
use Rattle.buffer_sizes.proofs.Stated.{beyond, within}
use Rattle.buffer_sizes.proofs.window.Goals as goal

pub returns-then-n-gt-PLACES : goal.returns-then-n-gt-PLACES
returns-then-n-gt-PLACES c = beyond places window_bytes c.args.n c.if-n-gt-PLACES.true

pub returns : goal.returns
returns c = within places window_bytes c.args.n c.if-n-gt-PLACES.false (omega arith)
