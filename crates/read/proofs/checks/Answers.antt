-- `read::checks` meets its contract. Assumes nothing.
use mathlib.Core.Path.{◌∙◌}
use mir.Syntax.{w8}
use mir.Val.{Fits}
use lib.ListN.{get_or}
use borrow.Author.Rules.{rules}
use Rattle.line_order.specs.Order.{word_in}
use Rattle.hamming_table.proofs.Tabled.{by_checks}
use Rattle.line_order.proofs.OrderLaws.{word_bytes_law}
use Rattle.read.proofs.checks.Goals as goal

pub returns : goal.returns
returns c = let a = c.args in
    let cap = a.capture.now in
    c.checks_in.ensures ∙ by_checks a.table.now (word_in cap a.w) c.requires (word_bytes_law cap a.w (λ k. let f : Fits w8 (get_or cap k 0) = search rules in f.fits))
