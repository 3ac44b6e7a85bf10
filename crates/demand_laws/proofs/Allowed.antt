-- No hypothesis of a demand is narrower than document 01: whatever it allows is an input, and an edit. The numbers here are the document's own.
-- Assumes nothing.
use Prim.Native.Nat.{ℕ, ◌+◌, ◌*◌, ◌≤◌, ◌<◌}
use mathlib.Core.Bool.{not}
use mathlib.Core.Path.{◌≡◌, ap}
use mathlib.Core.List.{List}
use native.Mathlib.Omega.{arith}
use borrow.Author.Tests.{lt-ltb, eq-eqb}
use lib.ListN.{length}
use Rattle.bits.specs.Bits.{num, bit_at, Bytes}
use Rattle.bits.proofs.Numbers.{num-zero}
use Rattle.sizes.specs.Sizes.{block_bits}
use Rattle.line.specs.Fec.{block_numbers, mbas_allowed}
use Rattle.line.proofs.CaptureLaws.{all_frames}
use Rattle.edit_spec.specs.Edit.{client_spare_set}
use Rattle.demand_laws.specs.Demand2.{Input}
use Rattle.demand_laws.specs.Demand3.{EditInput}

-- "N is 1..8. Information 152,915·N bytes, parity 10,240·N"; "m0 is 0..127" (M-102)
pub input_all : (N m0 : ℕ) (info par : List ℕ) → 1 ≤ N → N ≤ 8 → m0 ≤ 127 → length info ≡ 152915 * N → Bytes info → length par ≡ 10240 * N → Bytes par
    → Input N m0 info par
unfolding mbas_allowed
input_all N m0 info par some few number info_long info_are_bytes parity_long parity_are_bytes = record {
  frames = all_frames N some few;
  number = lt-ltb m0 block_numbers (omega arith);
  info_long = info_long;
  info_are_bytes = info_are_bytes;
  parity_long = parity_long;
  parity_are_bytes = parity_are_bytes;
}

-- "a client block number 0..4,760·N − 1, 33 bytes (257 bits, seven zero bits), 2,048 parity bytes .. and a list of exactly 145 numbers"
pub edit_input_all : (N b : ℕ) (bits parity list : List ℕ) → 1 ≤ N → N ≤ 8 → b < 4760 * N → length bits ≡ 33
    → ((j : ℕ) → j < 7 → bit_at bits (257 + j) ≡ 0) → length parity ≡ 2048 → length list ≡ 145 → EditInput N b bits parity list
unfolding client_spare_set
edit_input_all N b bits parity list some few block bits_long spare parity_long list_long = record {
  frames = all_frames N some few;
  block = block;
  bits_long = bits_long;
  spare = ap not (eq-eqb (num 7 (bit_at bits) block_bits) 0 (num-zero 7 (bit_at bits) block_bits spare));
  parity_long = parity_long;
  list_long = list_long;
}
