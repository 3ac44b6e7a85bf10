-- `code::block_crc` meets its contract: the part of the information that is the block's. Assumes nothing.
use Prim.Native.Nat.{◌+◌, ◌-◌, ◌*◌}
use mathlib.Core.Path.{◌∙◌}
use native.Mathlib.Omega.{arith}
use Rattle.sizes.specs.Sizes.{info_bytes}
use Rattle.code.proofs.Plain.{block_part}
use Rattle.code.proofs.block_crc.Goals as goal

pub returns : goal.returns
returns c = let a = c.args in
    let given = c.shared_slice_known-1.given in
    c.crc.ensures
    ∙ block_part a.table.now a.info.now a.t (info_bytes * a.t + info_bytes - info_bytes * a.t) c.requires.0 (λ k. (given k).fits) c.requires.1
    (omega arith)
