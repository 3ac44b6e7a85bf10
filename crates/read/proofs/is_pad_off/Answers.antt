-- `read::is_pad_off` meets its contract. Assumes nothing.
use mathlib.Core.Bool.{not}
use mathlib.Core.Path.{◌≡◌, ap, ◌∙◌}
use lib.ListN.{length}
use Rattle.bits.proofs.Packing.{length-packs}
use Rattle.read_spec.proofs.Searching.{zero_equal}
use Rattle.read_spec.proofs.Blocks.{pad_copied}
use borrow.Author.Rules.{rules}
use Rattle.sizes.specs.Sizes.{super_bytes}
use Rattle.read.proofs.is_pad_off.Goals as goal

pub returns : goal.returns
returns c = let e = c.copy.ensures in
    let long : length c.args.s.now ≡ super_bytes = search rules in
    c.ne.ensures ∙ ap not (zero_equal 90 _ (ap length e ∙ length-packs 8 90 _)) ∙ pad_copied c.args.s.now _ long e
