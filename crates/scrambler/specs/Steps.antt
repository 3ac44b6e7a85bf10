-- The register that makes the sequence: sixteen of its bits, the oldest on top. Assumes nothing: these are definitions.
use Rattle.std.specs.Prelude.{ℕ, ◌+◌, ◌*◌, ◌%◌, ◌^◌, ◌≤◌, ◌<◌, ◌≡◌, List, ◌++◌, length, drop}
use Rattle.bits.specs.Bits.{num, pack}
use Rattle.scrambler.specs.Scrambler.{o}

-- o(k), .., o(k+15)
abbrev pub register : ℕ → ℕ
register k = num 16 o k

-- r is what the register s has become n steps later: where s holds o(k), .., o(k+15), r holds o(k+n), .., o(k+n+15)
pub record Steps (n s r : ℕ) : Type 0 where
  pub small : r < 2 ^ 16
  pub on : (k : ℕ) → s ≡ register k → r ≡ register (k + n)

-- the document's rule at stride m: m = 1 is the rule itself
abbrev pub Rule : ℕ → Type 0
Rule m = (n : ℕ) → o (n + 16 * m) ≡ (o (n + 15 * m) + o (n + 13 * m) + o (n + 4 * m) + o n) % 2

-- ---- how far a buffer is filled

-- the first m bytes of d replaced by those of the sequence
pub record Opened (m : ℕ) (d out : List ℕ) : Type 0 where
  pub long : length out ≡ length d
  pub is : out ≡ pack m o ++ drop m d

-- the first m bytes of out are those of the sequence
pub record SequenceBegun (m : ℕ) (out : List ℕ) : Type 0 where
  pub within : m ≤ length out
  pub is : out ≡ pack m o ++ drop m out

-- after so many bits it repeats (`again` of proofs/Period.antt)
abbrev pub period : ℕ
period = 65535
