-- The sequence repeats after 65,535 bits: there the register is all ones again, and from sixteen ones the rule leaves one sequence.
-- Assumes nothing.
use Prim.Native.Nat.{ℕ, zero, suc, ◌+◌, ◌*◌, ◌/◌, ◌%◌, ◌<◌}
use mathlib.Core.Path.{◌≡◌, refl, sym, ap, ◌∙◌}
use native.Mathlib.Nat.{add-zero, add_assoc, mul-zero, mul-suc}
use native.Mathlib.Omega.{arith}
use Rattle.bits.specs.Bits.{digit}
use Rattle.bits.proofs.Numbers.{digit-num}
use Rattle.scrambler.specs.Scrambler.{o}
use Rattle.scrambler.specs.Steps.{register, period}
use Rattle.scrambler.proofs.Rule.{o_lt, o_step, o_first, only_o}
use Rattle.scrambler.proofs.Stepping.{starts, next_is}

-- a step of the register, n of them, and m times n of them
next : ℕ → ℕ
next s = (s * 2 + (s % 2 + s / 4 % 2 + s / 2048 % 2 + s / 32768 % 2) % 2) % 65536

steps : ℕ → ℕ → ℕ
steps zero s = s
steps (suc n) s = next (steps n s)

laps : ℕ → ℕ → ℕ → ℕ
laps zero n s = s
laps (suc m) n s = steps n (laps m n s)

steps_on : (n k s : ℕ) → s ≡ register k → steps n s ≡ register (k + n)
unfolding steps next
steps_on zero k s e = e ∙ ap register (sym (add-zero k))
steps_on (suc n) k s e = next_is (k + n) (steps n s) (steps_on n k s e) ∙ ap register (omega arith)

laps_on : (m n k s : ℕ) → s ≡ register k → laps m n s ≡ register (k + n * m)
unfolding laps
laps_on zero n k s e = e ∙ ap register (sym (ap (λ (x : ℕ). k + x) (mul-zero n) ∙ add-zero k))
laps_on (suc m) n k s e =
    steps_on n (k + n * m) (laps m n s) (laps_on m n k s e) ∙ ap register (add_assoc k (n * m) n ∙ ap (λ (x : ℕ). k + x) (sym (mul-suc n m)))

-- 255 laps of 257 steps, computed
around : laps 255 257 0xFFFF ≡ 0xFFFF
unfolding laps steps next
around = refl

again : register period ≡ 0xFFFF
again = sym (laps_on 255 257 0 0xFFFF (sym starts)) ∙ around

-- sixteen ones in the register
ones_again : (j : ℕ) → j < 16 → o (period + j) ≡ 1
ones_again j h = sym (digit-num 16 o period j o_lt h) ∙ ap (λ (x : ℕ). digit 16 x j) (again ∙ sym starts) ∙ digit-num 16 o 0 j o_lt h
    ∙ o_first (0 + j) (omega arith)

pub repeats : (n : ℕ) → o (period + n) ≡ o n
repeats =
    only_o (λ n. o (period + n)) ones_again
    (λ n. ap o (sym (add_assoc period n 16)) ∙ o_step (period + n)
    ∙ (rw (add_assoc period n 15, add_assoc period n 13, add_assoc period n 4)))

times_round : (q n : ℕ) → o (period * q + n) ≡ o n
times_round zero n = ap o (omega arith)
times_round (suc q) n = ap o (omega arith) ∙ repeats (period * q + n) ∙ times_round q n

-- so one period is enough to know every bit
pub within_period : (k i : ℕ) → o (k % period + i) ≡ o (k + i)
within_period k i = sym (ap o (omega arith) ∙ times_round (k / period) (k % period + i))
