-- `archive::writing::put_entries` meets its contract: an entry a turn. Assumes nothing.
use mathlib.Core.Path.{◌≡◌}
use lib.ListN.{length}
use Rattle.archive_spec.specs.File.{head_bytes}
use Rattle.archive_spec.specs.Steps.{HeadUpTo}
use Rattle.archive.proofs.writing.put_entries.Given as goal

abbrev pub invariant-loop-kind : goal.invariant-loop-kind
invariant-loop-kind l = HeadUpTo l.n l.kinds l.lengths (length l.yielded) l.head l.from × (l.at ≡ head_bytes (length l.yielded))
