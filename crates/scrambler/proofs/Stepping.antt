-- The register steps as the sequence does; its upper half is a byte of the sequence. Assumes nothing.
use Prim.Native.Nat.{ℕ, ◌+◌, ◌-◌, ◌*◌, ◌/◌, ◌%◌, ◌^◌, ◌<◌}
use mathlib.Core.Path.{◌≡◌, refl, sym, ap, ◌∙◌}
use native.Mathlib.Nat.{add-zero, add_assoc, div-one}
use native.Mathlib.Omega.{arith}
use Rattle.bits.specs.Bits.{num, digit, byte_of}
use Rattle.bits.proofs.Numbers.{num_next, num_front, digit-num}
use Rattle.scrambler.specs.Scrambler.{push, hist, o}
use Rattle.scrambler.specs.Steps.{register, Steps}
use Rattle.scrambler.proofs.Rule.{o_lt, o_step}

-- where it starts: all ones
pub starts : register 0 ≡ 0xFFFF
unfolding num o hist push
starts = refl

-- the register's bit j is o(k+j)
tap : (k s j : ℕ) → s ≡ register k → j < 16 → s / 2 ^ (15 - j) % 2 ≡ o (k + j)
unfolding digit
tap k s j e h = rw e (digit-num 16 o k j o_lt h)

-- one step
pub next_is : (k s : ℕ) → s ≡ register k → (s * 2 + (s % 2 + s / 4 % 2 + s / 2048 % 2 + s / 32768 % 2) % 2) % 65536 ≡ register (k + 1)
next_is k s e =
    let b15 : s % 2 ≡ o (k + 15) = ap (λ (x : ℕ). x % 2) (sym (div-one s)) ∙ tap k s 15 e (omega arith) in
    let b0 : s / 32768 % 2 ≡ o k = tap k s 0 e (omega arith) ∙ ap o (add-zero k) in
    rw (b15, tap k s 13 e (omega arith), tap k s 4 e (omega arith), b0, ← o_step k, e) (sym (num_next 16 o k o_lt))

-- one after the other
pub steps_join : {m n s r t : ℕ} → Steps m s r → Steps n r t → Steps (m + n) s t
steps_join {m} {n} p q = record { small = q.small; on = λ k e. rw (← add_assoc) (q.on (k + m) (p.on k e)) }

-- byte k of the sequence is the upper half of the register that starts at its first bit
pub upper_half : (k s : ℕ) → s ≡ register (8 * k) → s / 256 ≡ byte_of o k
upper_half k s e = rw e (num_front 8 8 o (8 * k) o_lt)

-- a byte further
pub byte_on : {s r : ℕ} (k : ℕ) → s ≡ register (8 * k) → Steps 8 s r → r ≡ register (8 * (k + 1))
byte_on {s} {r} k e p = let m : 8 * (k + 1) ≡ 8 * k + 8 = omega arith in rw m (p.on (8 * k) e)
