-- The rule at strides: o(n+16m) is the sum of o(n+15m), o(n+13m), o(n+4m) and o(n) for m = 1, 2, 4, .., since in the square of a sum
-- without carries the mixed terms cancel. At m = 128 it adds whole bytes. Assumes nothing.
use Prim.Native.Nat.{ℕ, ◌+◌, ◌-◌, ◌*◌, ◌/◌, ◌%◌, ◌≤◌, ◌<◌}
use mathlib.Core.Path.{◌≡◌, sym, ap, ◌∙◌}
use mathlib.Core.List.{List, ◌++◌, append-nil}
use native.Mathlib.Nat.{le_of_eq}
use native.Mathlib.Omega.{arith}
use lib.Bits.{bit_xor}
use lib.ListN.{length, drop, drop_of_length-le}
use lib.Seq.{drop_at}
use Rattle.bits.specs.Bits.{num, byte_of, pack, added, Bits}
use Rattle.bits.proofs.Numbers.{num_ext}
use Rattle.bits.proofs.Packing.{length-packs}
use Rattle.bits.proofs.Xor.{num_xor}
use Rattle.scrambler.specs.Scrambler.{o}
use Rattle.scrambler.specs.Steps.{Rule, Opened, SequenceBegun}
use Rattle.scrambler.proofs.Rule.{o_lt, o_step}

-- terms that come twice; and a sum of sums, each without its carry
even : (x y z : ℕ) → x ≡ y + 2 * z → x % 2 ≡ y % 2
even x y z e = omega arith

sums : (p q r s : ℕ) → (p % 2 + q % 2 + r % 2 + s % 2) % 2 ≡ (p + q + r + s) % 2
sums p q r s = sym (even (p + q + r + s) (p % 2 + q % 2 + r % 2 + s % 2) (p / 2 + q / 2 + r / 2 + s / 2) (omega arith))

cancel : (a b c d e f g h i j : ℕ)
    → ((a + b + c + d) % 2 + (b + e + f + g) % 2 + (c + f + h + i) % 2 + (d + g + i + j) % 2) % 2 ≡ (a + e + h + j) % 2
cancel a b c d e f g h i j =
    sums (a + b + c + d) (b + e + f + g) (c + f + h + i) (d + g + i + j)
    ∙ even (a + b + c + d + (b + e + f + g) + (c + f + h + i) + (d + g + i + j)) (a + e + h + j) (b + c + d + f + g + i) (omega arith)

-- the rule at n + k, the sum written as n's
rule_shifted : (m : ℕ) → Rule m → (a b c d e : ℕ) → a ≡ e + 16 * m → b ≡ e + 15 * m → c ≡ e + 13 * m → d ≡ e + 4 * m → o a ≡ (o b + o c + o d + o e) % 2
rule_shifted m r a b c d e p q s t = rw (p, q, s, t) (r e)

stride_twice : (m : ℕ) → Rule m → Rule (2 * m)
stride_twice m r n =
    let top = rule_shifted m r (n + 16 * (2 * m)) (n + 31 * m) (n + 29 * m) (n + 20 * m) (n + 16 * m) (omega arith) (omega arith) (omega arith) (omega arith) in
    let a = rule_shifted m r (n + 31 * m) (n + 15 * (2 * m)) (n + 28 * m) (n + 19 * m) (n + 15 * m) (omega arith) (omega arith) (omega arith) (omega arith) in
    let b = rule_shifted m r (n + 29 * m) (n + 28 * m) (n + 13 * (2 * m)) (n + 17 * m) (n + 13 * m) (omega arith) (omega arith) (omega arith) (omega arith) in
    let c = rule_shifted m r (n + 20 * m) (n + 19 * m) (n + 17 * m) (n + 4 * (2 * m)) (n + 4 * m) (omega arith) (omega arith) (omega arith) (omega arith) in
    top ∙ (rw (a, b, c, r n)
    (cancel (o (n + 15 * (2 * m))) (o (n + 28 * m)) (o (n + 19 * m)) (o (n + 15 * m)) (o (n + 13 * (2 * m))) (o (n + 17 * m)) (o (n + 13 * m))
    (o (n + 4 * (2 * m))) (o (n + 4 * m)) (o n)))

-- at strides of 1, 4, 16 and 64 bytes
pub stride_1 : Rule 8
stride_1 = stride_twice 4 (stride_twice 2 (stride_twice 1 (λ n. o_step n)))

pub stride_4 : Rule 32
stride_4 = stride_twice 16 (stride_twice 8 stride_1)

pub stride_16 : Rule 128
stride_16 = stride_twice 64 (stride_twice 32 stride_4)

pub stride_64 : Rule 512
stride_64 = stride_twice 256 (stride_twice 128 stride_16)

-- byte k, from bit 0 of the sequence that begins there
abbrev since : ℕ → ℕ → ℕ
since k i = o (8 * k + i)

since_byte : (k : ℕ) → byte_of o k ≡ num 8 (since k) 0
since_byte k = num_ext 8 o (since k) (8 * k) 0 (λ j l. ap o (omega arith))

since_lt : (k : ℕ) → Bits (since k)
since_lt k i = o_lt (8 * k + i)

added_lt : (f g : ℕ → ℕ) → Bits (added f g)
added_lt f g i = omega arith

four : (a b c d : ℕ) → (((a + b) % 2 + c) % 2 + d) % 2 ≡ (a + b + c + d) % 2
four a b c d = omega arith

-- a byte is the sum of four before it
pub byte_sum_law : (s k : ℕ) → Rule (8 * s) → 16 * s ≤ k
    → bit_xor (bit_xor (bit_xor (byte_of o (k - s)) (byte_of o (k - 3 * s))) (byte_of o (k - 12 * s))) (byte_of o (k - 16 * s)) ≡ byte_of o k
byte_sum_law s k r h =
    let a = since (k - s) in
    let b = since (k - 3 * s) in
    let c = since (k - 12 * s) in
    let d = since (k - 16 * s) in
    rw (since_byte (k - s), since_byte (k - 3 * s), since_byte (k - 12 * s), since_byte (k - 16 * s))
    (ap (λ (x : ℕ). bit_xor (bit_xor x (num 8 c 0)) (num 8 d 0)) (num_xor 8 a b 0 (since_lt (k - s)) (since_lt (k - 3 * s)))
    ∙ ap (λ (x : ℕ). bit_xor x (num 8 d 0)) (num_xor 8 (added a b) c 0 (added_lt a b) (since_lt (k - 12 * s)))
    ∙ num_xor 8 (added (added a b) c) d 0 (added_lt (added a b) c) (since_lt (k - 16 * s))
    ∙ num_ext 8 (added (added (added a b) c) d) o 0 (8 * k)
    (λ j l. four (a (0 + j)) (b (0 + j)) (c (0 + j)) (d (0 + j))
    ∙ sym (rule_shifted (8 * s) r (8 * k + j) (8 * (k - s) + (0 + j)) (8 * (k - 3 * s) + (0 + j)) (8 * (k - 12 * s) + (0 + j)) (8 * (k - 16 * s) + (0 + j))
    (omega arith) (omega arith) (omega arith) (omega arith))))

-- the same out of a buffer that has all bytes before it
pub next_sum : (s k : ℕ) (f : ℕ → ℕ) → Rule (8 * s) → 1 ≤ s → 16 * s ≤ k → ((j : ℕ) → j < k → f j ≡ byte_of o j)
    → bit_xor (bit_xor (bit_xor (f (k - s)) (f (k - 3 * s))) (f (k - 12 * s))) (f (k - 16 * s)) ≡ byte_of o k
next_sum s k f r some far at =
    rw (at (k - s) (omega arith), at (k - 3 * s) (omega arith), at (k - 12 * s) (omega arith), at (k - 16 * s) (omega arith)) (byte_sum_law s k r far)

-- ---- a buffer that is begun

-- to its end
pub opened_all : {d out : List ℕ} (n : ℕ) → Opened n d out → n ≡ length d → out ≡ pack (length d) o
opened_all {d} {out} n e p = rw (e.is, drop_of_length-le d (le_of_eq (sym p)), p) (append-nil (pack (length d) o))

pub sequence_begun_all : {out : List ℕ} (n : ℕ) → SequenceBegun n out → length out ≡ n → out ≡ pack n o
sequence_begun_all {out} n b e = b.is ∙ (rw (drop_of_length-le out (le_of_eq e)) (append-nil (pack n o)))

-- so far
pub opened_begun : {m : ℕ} {d out : List ℕ} → Opened m d out → m ≤ length d → SequenceBegun m out
opened_begun {m} {d} {out} e h =
    let rest : drop m out ≡ drop m d = rw e.is (drop_at (pack m o) (drop m d) m (length-packs 8 m o)) in
    record { within = rw e.long h; is = e.is ∙ ap (λ (s : List ℕ). pack m o ++ s) (sym rest) }
