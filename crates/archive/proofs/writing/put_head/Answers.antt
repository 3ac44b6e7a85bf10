-- `archive::writing::put_head` meets its contract: what stands before the entries, and then they. Assumes nothing.
use Rattle.archive_spec.proofs.Placing.{head_begun, same_head}
use Rattle.archive.proofs.writing.put_head.Goals as goal

pub put_entries-requires : goal.put_entries-requires
put_entries-requires c = let h = c.requires in
    let u = head_begun h c.put_fixed.ensures c.put_number.ensures in
    (same_head h u.long, u)
