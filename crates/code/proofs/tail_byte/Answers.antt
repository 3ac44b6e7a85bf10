-- `code::tail_byte` meets its contract, by the three kinds of bytes. Assumes nothing.
use Prim.Native.Nat.{ℕ, zero, suc, ◌-◌, ◌*◌, ◌/◌, ◌%◌, ◌^◌, ◌<◌}
use mathlib.Core.Path.{◌≡◌, refl, sym, ap, ◌∙◌}
use mir.Syntax.{w32}
use native.Mathlib.Omega.{arith}
use Rattle.std.specs.Prelude.{get_or}
use Rattle.std.specs.Int.{to_be_bytes}
use Rattle.prelude.specs.Lists.{from_index}
use Rattle.bits.specs.Bits.{num, bit_at}
use Rattle.code.proofs.Tails.{byte_crc, byte_mid, byte_high, byte_start}
use Rattle.code.specs.Steps.{tail_bit}
use Rattle.code.proofs.Plain.{from_bits_law}
use Rattle.code.proofs.tail_byte.Goals as goal

-- byte k of the four, as a quotient
four : (x k : ℕ) → k < 4 → get_or (to_be_bytes w32 x) k 0 ≡ x / 2 ^ (24 - 8 * k) % 256
four x zero h = refl
four x (suc zero) h = refl
four x (suc (suc zero)) h = refl
four x (suc (suc (suc zero))) h = omega arith
four x (suc (suc (suc (suc k)))) h = absurd (omega arith)

pub returns-then-k-lt4 : goal.returns-then-k-lt4
returns-then-k-lt4 c = let a = c.args in
    rw c.to_be_bytes.ensures (four a.crc a.k c.if-k-lt4.true ∙ byte_crc a.crc a.mbas (from_index (bit_at a.parity.now) a.at) a.k c.if-k-lt4.true (omega arith))

pub returns-then-k-eq4 : goal.returns-then-k-eq4
returns-then-k-eq4 c = let a = c.args in
    let s = a.parity.now in
    let e : 8 * a.k ≡ 32 = omega arith in
    byte_mid a.crc a.mbas (from_index (bit_at s) a.at) c.byte_from.result (omega arith) (from_bits_law s a.at) (c.byte_from.ensures
    ∙ byte_start s a.at)
    ∙ ap (num 8 (tail_bit a.crc a.mbas (from_index (bit_at s) a.at))) (sym e)

pub returns : goal.returns
returns c = let a = c.args in c.byte_from-2.ensures ∙ byte_high a.crc a.mbas a.parity.now a.at a.k (omega arith)
