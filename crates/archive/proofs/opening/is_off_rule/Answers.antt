-- `archive::opening::is_off_rule` meets its contract: its tests in turn. Assumes nothing.
use Rattle.archive_spec.proofs.Starts.{rule_cut, rule_elsewhere, rule_midst, rule_last}
use Rattle.archive.proofs.opening.is_off_rule.Goals as goal

pub returns-then-size-entry_from : goal.returns-then-size-entry_from
returns-then-size-entry_from c = search rule_cut

pub returns-then-number_at-from : goal.returns-then-number_at-from
returns-then-number_at-from c = search rule_elsewhere

pub returns-then-e-n : goal.returns-then-e-n
returns-then-e-n c = search rule_midst

pub returns : goal.returns
returns c = search rule_last
