-- `read::Reader::read` meets its contract. Assumes nothing.
use Rattle.std.proofs.lemmas.Result.{err_from_is_err_and}
use Rattle.answer.proofs.Results.{not_done}
use Rattle.read_spec.proofs.Judging.{late_done, late_refused}
use mathlib.Core.Path.{refl}
use Rattle.read.proofs.Reader.read.Goals as goal

pub returns-in_err-seen : goal.returns-in_err-seen
returns-in_err-seen c = let r = c.args.self.now in
    let p = err_from_is_err_and c.from_residual.result c.from_residual.ensures.1 in
    rw (p.1, p.2) (late_refused r.n r.m0 r.capture.now c.args.info.now c.args.parity.now _ _ _
    c.tally_words-w.ensures c.tally_frames-b.ensures c.in_err-seen.ensures (not_done c.in_err-seen.field-0.0))

pub returns : goal.returns
returns c = let r = c.args.self.now in
    let w = c.write_frames.ensures in
    late_done r.n r.m0 r.capture.now c.args.info.now c.args.parity.now _ _ _
    c.tally_words-w.ensures c.tally_frames-b.ensures c.in_ok-seen.ensures _ _ refl w.0 w.1
