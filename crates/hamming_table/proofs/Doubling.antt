-- The table of bytes by doubling: what a byte adds is linear, so one bit more adds its column. Assumes nothing.
use Prim.Native.Nat.{ℕ, ◌+◌, ◌-◌, ◌*◌, ◌/◌, ◌^◌, ◌≤◌, ◌<◌}
use mathlib.Core.Path.{◌≡◌, refl, sym, ap, ap₂, ◌∙◌}
use mathlib.Core.List.{List}
use native.Mathlib.Nat.{one-mul, add-zero}
use native.Mathlib.Numerals.{add-one}
use native.Mathlib.Omega.{arith}
use borrow.Author.Count.{below_more}
use lib.Bits.{bit_xor, xor_comm, xor_self, xor_shifted}
use lib.ListN.{length, length-set, get_or, set}
use lib.Pow.{pow_mono}
use lib.Seq.{get_or-set_same, get_or-set_other}
use Rattle.bits.specs.Bits.{digit}
use Rattle.prelude.proofs.Common.{agree}
use Rattle.prelude.proofs.Lists.{is_table}
use Rattle.bits.proofs.Numbers.{digit_lt}
use Rattle.bits.proofs.Xor.{digit_xor}
use Rattle.sizes.specs.Sizes.{word_bytes}
use Rattle.hamming_matrix.specs.Columns.{column_of}
use Rattle.hamming_matrix.specs.Sums.{column_taken}
use Rattle.hamming.specs.Steps.{byte_sum}
use Rattle.hamming_table.specs.Steps.{byte_entry, byte_table, EntriesBegun, Doubles}
use Rattle.hamming_matrix.proofs.Sums.{unit, sum_same, sum_unit, taken_same, taken_xor}
use Rattle.hamming.proofs.Flipping.{mark_digit}

-- ---- what a byte adds

pub byte_sum_xor : (k x y : ℕ) → byte_sum k (bit_xor x y) ≡ bit_xor (byte_sum k x) (byte_sum k y)
unfolding byte_sum
byte_sum_xor k x y =
    taken_xor (8 * k) (digit 8 x) (digit 8 y) (digit 8 (bit_xor x y)) 8 (digit_lt 8 x) (digit_lt 8 y) (λ j h. digit_xor 8 x y j)

-- without bits nothing is added, and one bit adds its column
byte_sum_none : (k : ℕ) → byte_sum k 0 ≡ 0
byte_sum_none k = byte_sum_xor k 0 0 ∙ xor_self (byte_sum k 0)

byte_sum_one : (k a : ℕ) → a < 8 → byte_sum k (128 / 2 ^ a) ≡ column_of (8 * k + a)
unfolding byte_sum
byte_sum_one k a h =
    sum_same (column_taken (8 * k) (digit 8 (128 / 2 ^ a))) (column_taken (8 * k) (unit a)) 8
    (λ b l. taken_same (8 * k) (8 * k) (digit 8 (128 / 2 ^ a)) (unit a) b b (mark_digit a b h l) refl)
    ∙ sum_unit (8 * k) a 8 h

-- the bit of 2 ^ j, counted from the top
from_top : (j : ℕ) → j < 8 → 2 ^ j ≡ 128 / 2 ^ (7 - j)
from_top = agree (λ j. 2 ^ j) (λ j. 128 / 2 ^ (7 - j)) 8 tt

-- so a bit above those of r adds its column to what r adds
pub byte_sum_more : (k j r : ℕ) → j < 8 → r < 2 ^ j → byte_sum k (2 ^ j + r) ≡ bit_xor (byte_sum k r) (column_of (8 * k + (7 - j)))
byte_sum_more k j r h l =
    let e : bit_xor (2 ^ j) r ≡ 2 ^ j + r = rw one-mul at (xor_shifted 1 j r l) in
    ap (byte_sum k) (sym e) ∙ byte_sum_xor k (2 ^ j) r ∙ xor_comm (byte_sum k (2 ^ j)) (byte_sum k r)
    ∙ ap (bit_xor (byte_sum k r)) (ap (byte_sum k) (from_top j h) ∙ byte_sum_one k (7 - j) (omega arith))

-- ---- entries of the table

pub entry_of_law : (k x : ℕ) → x < 256 → byte_entry (256 * k + x) ≡ byte_sum k x
unfolding byte_entry
entry_of_law k x h = ap₂ byte_sum (omega arith) (omega arith)

-- the first of a row
row_first : (k : ℕ) → byte_entry (256 * k) ≡ 0
row_first k = ap byte_entry (sym (add-zero (256 * k))) ∙ entry_of_law k 0 (omega arith) ∙ byte_sum_none k

-- the doubling in a row: n goes from 1 to 128
pub row_room : (j n : ℕ) → j < 8 → n ≡ 2 ^ j → n ≤ 128
row_room j n h p = rw p (pow_mono {i = j} {j = 7} (omega arith))

pub row_next : (j n : ℕ) → n ≡ 2 ^ j → n * 2 ≡ 2 ^ (j + 1)
row_next j n p = rw (add-one j) (omega arith)

pub row_doubles : (k j n c : ℕ) → j < 8 → n ≡ 2 ^ j → c ≡ column_of (8 * k + 7 - j) → Doubles (256 * k) n c
row_doubles k j n c h p q r l =
    let m = row_room j n h p in
    let t : c ≡ column_of (8 * k + (7 - j)) = q ∙ ap column_of (omega arith) in
    ap byte_entry (omega arith) ∙ entry_of_law k (n + r) (omega arith) ∙ rw (t, p) (byte_sum_more k j r h (rw p at l))
    ∙ ap (λ (x : ℕ). bit_xor x c) (sym (entry_of_law k r (omega arith)))

-- ---- a table that is begun

pub begun_none : {t : List ℕ} → length t ≡ 256 * word_bytes → EntriesBegun 0 t
begun_none p = record { long = p; first = λ e l. absurd (omega arith) }

-- the same, where the code counts otherwise
pub begun_to : {m : ℕ} {t : List ℕ} (n : ℕ) → EntriesBegun m t → m ≡ n → EntriesBegun n t
begun_to n b p = rw p at b

-- one entry more
begun_more : (m v : ℕ) (t : List ℕ) → EntriesBegun m t → m < 256 * word_bytes → v ≡ byte_entry m → EntriesBegun (m + 1) (set t m v)
begun_more m v t b h p = record {
  long = length-set t m v ∙ b.long;
  first =
      below_more (λ e. get_or (set t m v) e 0 ≡ byte_entry e) m (λ e l. get_or-set_other t m e v 0 (λ q. absurd (omega arith)) ∙ b.first e l)
      (get_or-set_same t m v 0 (omega (arith, b.long)) ∙ p);
}

-- the first of a row, and one more by doubling
pub begun_row : (k : ℕ) (t : List ℕ) → EntriesBegun (256 * k) t → k < word_bytes → EntriesBegun (256 * k + 1) (set t (256 * k) 0)
begun_row k t b h = begun_more (256 * k) 0 t b (omega arith) (sym (row_first k))

pub begun_double : (a n c r : ℕ) (t : List ℕ) → Doubles a n c → EntriesBegun (a + n + r) t → r < n → a + 2 * n ≤ 256 * word_bytes
    → EntriesBegun (a + n + (r + 1)) (set t (a + n + r) (bit_xor (get_or t (a + r) 0) c))
begun_double a n c r t d b l h =
    begun_to (a + n + (r + 1))
    (begun_more (a + n + r) (bit_xor (get_or t (a + r) 0) c) t b (omega arith) (ap (λ (x : ℕ). bit_xor x c) (b.first (a + r) (omega arith)) ∙ sym (d r l)))
    (omega arith)

-- all of it
pub entries_begun_all : {t : List ℕ} → EntriesBegun (256 * word_bytes) t → t ≡ byte_table
entries_begun_all {t} b = is_table 0 (256 * word_bytes) byte_entry t b.long b.first
