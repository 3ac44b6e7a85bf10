-- `edit::crc_word` meets its contract: four bytes, and the zeros that were there. Assumes nothing.
use Prim.Native.Nat.{ℕ, ◌-◌, ◌*◌, ◌/◌, ◌%◌, ◌^◌, ◌<◌}
use mathlib.Core.Path.{◌≡◌, ap, ◌∙◌}
use mathlib.Core.List.{List, ◌++◌}
use native.Mathlib.Omega.{arith}
use mir.Syntax.{w32}
use lib.ListN.{drop, replicate}
use Rattle.prelude.specs.Lists.{tabulate}
use Rattle.std.specs.Int.{to_be_bytes}
use Rattle.bits.specs.Bits.{byte_of}
use Rattle.sizes.specs.Sizes.{crc_bits, word_bytes}
use Rattle.edit_spec.specs.Steps.{crc_bit}
use Rattle.edit_spec.proofs.Remaking.{crc_byte, crc_placed}
use Rattle.edit.proofs.crc_word.Goals as goal

bytes : (crc : ℕ) → crc < 2 ^ crc_bits → to_be_bytes w32 crc ≡ tabulate 4 (byte_of (crc_bit crc))
unfolding tabulate
bytes crc h =
    let low : crc / 2 ^ (24 - 8 * 3) % 256 ≡ crc % 256 = omega arith in
    rw (← crc_byte crc 0 h (omega arith), ← crc_byte crc 1 h (omega arith), ← crc_byte crc 2 h (omega arith), ← crc_byte crc 3 h (omega arith), low)

pub returns : goal.returns
returns c = let crc = c.args.crc in
    ap (λ (s : List ℕ). s ++ drop 4 (replicate word_bytes 0))
    (c.copy_from_slice.ensures.after ∙ c.to_be_bytes.ensures ∙ bytes crc c.ranges.crc.fits) ∙ crc_placed crc
