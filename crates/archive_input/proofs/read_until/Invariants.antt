-- `archive_input::read_until` ends: each turn sees more bytes, and no more than can be counted. Assumes nothing.
use Rattle.std.proofs.Common.{◌-◌}
use Rattle.archive_input.proofs.read_until.Given as goal

abbrev pub decreases-loop-bytes : goal.decreases-loop-bytes
decreases-loop-bytes g l = l.most - l.bytes
