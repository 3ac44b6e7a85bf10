-- How the sizes hang together: each line is a sum or a product of document 01, computed. Assumes nothing.
use Prim.Native.Nat.{ℕ, ◌+◌, ◌*◌, ◌^◌}
use mathlib.Core.Path.{◌≡◌, refl}
use native.Mathlib.Omega.{arith}
use Rattle.sizes.specs.Sizes.{group_bits, pair_bytes, block_bits, client_blocks, info_bits, crc_bits, mbas_bits, parity_bits}
use Rattle.sizes.specs.Sizes.{mbas_from, parity_from, fec_bits, info_bytes, parity_bytes, fec_blocks, pad_from, pad_bits, super_bits, super_bytes}
use Rattle.sizes.specs.Sizes.{element_bits, super_elements, fec_elements, info_elements, tail_elements, rows, row_wait, longest_wait, super_blocks}
use Rattle.sizes.specs.Sizes.{super_info_bytes, super_parity_bytes, word_bits, check_bits, check_values, word_bytes, group_words, group_size}
use Rattle.sizes.specs.Sizes.{super_capture_bytes, filler_bytes, capture_length, words, block_bytes, list_length}

pub record Sizes : Type 0 where
  -- "four 257-bit blocks"; two places are whole bytes
  pub group : group_bits ≡ 4 * block_bits
  pub pair : 2 * group_bits ≡ 8 * pair_bytes
  pub blocks : info_bits ≡ client_blocks * block_bits
  pub information : info_bits ≡ 8 * info_bytes
  pub parity : parity_bits ≡ 8 * parity_bytes
  pub mbas_place : mbas_from ≡ info_bits + crc_bits
  pub parity_place : parity_from ≡ mbas_from + mbas_bits
  pub fec : fec_bits ≡ parity_from + parity_bits
  pub pad_place : pad_from ≡ fec_blocks * fec_bits
  pub super : super_bits ≡ pad_from + pad_bits
  pub super_bytes_law : super_bits ≡ 8 * super_bytes
  -- an FEC block is a whole number of elements, and so is its information: no element belongs to two blocks or to information and CRC
  pub fec_elements_law : fec_bits ≡ element_bits * fec_elements
  pub info_elements_law : info_bits ≡ element_bits * info_elements
  pub tail_elements_law : fec_elements ≡ info_elements + tail_elements
  pub super_elements_law : super_bits ≡ element_bits * super_elements
  -- "686 × 16": a border of super frames has whole rows before it
  pub super_rows : super_elements ≡ 686 * rows
  pub longest : longest_wait + row_wait ≡ rows * row_wait
  pub super_blocks_law : super_blocks ≡ fec_blocks * client_blocks
  pub super_info : super_info_bytes ≡ fec_blocks * info_bytes
  pub super_parity : super_parity_bytes ≡ fec_blocks * parity_bytes
  pub word : word_bits ≡ element_bits + check_bits
  pub checks : check_values ≡ 2 ^ check_bits
  pub word_bytes_law : word_bits ≡ 8 * word_bytes
  pub group_bytes_law : group_size ≡ group_words * word_bytes
  pub super_capture : super_capture_bytes ≡ word_bytes * super_elements
  pub filler : filler_bytes ≡ word_bytes * longest_wait
  -- "257 bits, seven zero bits"
  pub block : 8 * block_bytes ≡ block_bits + 7
  -- "145 always suffices (4 + 2 + 139)"
  pub list : list_length ≡ 4 + 2 + 139

pub sizes : Sizes
sizes = record {
  group = refl;
  pair = refl;
  blocks = refl;
  information = refl;
  parity = refl;
  mbas_place = refl;
  parity_place = refl;
  fec = refl;
  pad_place = refl;
  super = refl;
  super_bytes_law = refl;
  fec_elements_law = refl;
  info_elements_law = refl;
  tail_elements_law = refl;
  super_elements_law = refl;
  super_rows = refl;
  longest = refl;
  super_blocks_law = refl;
  super_info = refl;
  super_parity = refl;
  word = refl;
  checks = refl;
  word_bytes_law = refl;
  group_bytes_law = refl;
  super_capture = refl;
  filler = refl;
  block = refl;
  list = refl;
}

-- a capture is its words, each of sixteen bytes
pub capture_words : (N : ℕ) → capture_length N ≡ word_bytes * words N
capture_words N = omega arith
