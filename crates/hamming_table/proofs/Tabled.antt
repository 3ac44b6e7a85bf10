-- What lent tables give is the code's where they are the table of `specs/Lent` and those of `hamming_matrix`. Assumes nothing.
use Prim.Native.Nat.{ℕ, ◌+◌, ◌*◌, ◌%◌, ◌<◌}
use mathlib.Core.Path.{◌≡◌, ap, ap₂, ◌∙◌}
use mathlib.Core.List.{List}
use native.Mathlib.Nat.{mod-eq_of_lt}
use native.Mathlib.Omega.{arith}
use lib.ListN.{get_or}
use Rattle.bits.specs.Bits.{bit_at, Bytes}
use Rattle.prelude.proofs.Lists.{get_d_tabulate}
use Rattle.bits.proofs.Packing.{bit_of_lt}
use Rattle.sizes.specs.Sizes.{word_bytes, check_values}
use Rattle.hamming_matrix.specs.Columns.{position_of}
use Rattle.hamming_matrix.specs.Sums.{tail_of}
use Rattle.hamming.specs.Code.{checks_of, element_sum, joined, joined_word, coded, code_word}
use Rattle.hamming.specs.Repair.{repair_at, repair_of}
use Rattle.hamming_table.specs.Steps.{byte_entry, byte_table, entry_at, sum_by_tables, word_by_tables}
use Rattle.hamming_matrix.proofs.Sums.{sum_same}
use Rattle.hamming_matrix.proofs.Matrix.{tail_lt}
use Rattle.hamming.proofs.Words.{checks_lt, element_lt, joined_lt, pack_bytes}
use Rattle.hamming.proofs.ByBytes.{byte_of_sum, checks_bytes, checks_alone}
use Rattle.hamming_matrix.specs.Steps.{tail_table, position_table}
use Rattle.hamming.specs.Steps.{byte_sum}
use Rattle.hamming_table.proofs.Doubling.{entry_of_law}

byte_entry_law : (k x : ℕ) → k < word_bytes → x < 256 → get_or byte_table (256 * k + x) 0 ≡ byte_sum k x
byte_entry_law k x h l = get_d_tabulate 0 (256 * word_bytes) byte_entry (256 * k + x) (omega arith) ∙ entry_of_law k x l

pub by_checks : (t w : List ℕ) → t ≡ byte_table → Bytes w → sum_by_tables t w ≡ checks_of w
unfolding sum_by_tables entry_at byte_of_sum
by_checks t w e b =
    sum_same (entry_at t w) (byte_of_sum w) word_bytes each_byte ∙ checks_bytes w
  where
    each_byte : (k : ℕ) → k < word_bytes → entry_at t w k ≡ byte_of_sum w k
    each_byte k h = ap (λ (l : List ℕ). get_or l (256 * k + get_or w k 0) 0) e ∙ byte_entry_law k (get_or w k 0) h (b k)

pub by_word : (t tails e : List ℕ) → t ≡ byte_table → tails ≡ tail_table → word_by_tables t tails e ≡ code_word e
unfolding word_by_tables coded
by_word t tails e p q =
    let f = bit_at e in
    let b = bit_of_lt 8 e in
    let c : sum_by_tables t (joined_word f 0) ≡ element_sum f = by_checks t (joined_word f 0) p (pack_bytes (joined f 0) (joined_lt f 0 b)) ∙ checks_alone f b in
    let h = element_lt f b in
    ap (joined_word f)
    (ap₂ (λ (l : List ℕ) (x : ℕ). get_or l x 0 % check_values) q c
    ∙ ap (λ (x : ℕ). x % check_values) (get_d_tabulate 0 check_values tail_of (element_sum f) h)
    ∙ mod-eq_of_lt (tail_lt (element_sum f) h))

pub by_known : (positions w : List ℕ) (c : ℕ) → positions ≡ position_table → c ≡ checks_of w → repair_at w c (get_or positions c 0) ≡ repair_of w
unfolding repair_of
by_known positions w c q e =
    ap₂ (λ (l : List ℕ) (x : ℕ). repair_at w x (get_or l x 0)) q e
    ∙ ap (repair_at w (checks_of w)) (get_d_tabulate 0 check_values position_of (checks_of w) (checks_lt w))
