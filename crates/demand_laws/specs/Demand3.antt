-- DEMAND 3: "Editing one client block with its FEC block's parity equals coding the edited input afresh, byte for byte; the listed words are
-- exactly those that hold a bit of the block, its CRC or parity; no other byte changes." The theorem is `demand_3` of proofs/Demand3.antt.
-- Assumes nothing: these are definitions.
use Rattle.std.specs.Prelude.{ℕ, ◌+◌, ◌-◌, ◌*◌, ◌/◌, ◌%◌, ◌<◌, true, false, cond, ◌&&◌, ◌≡◌, List, ◌++◌, ltb, leb, eqb, length, get_or, drop}
use Rattle.prelude.specs.Lists.{tabulate}
use Rattle.bits.specs.Bits.{bit_at, pack}
use Rattle.prelude.specs.Loops.{count}
use Rattle.answer.specs.Rows.{done}
use Rattle.answer.specs.declared.Answer.{Answer}
use Rattle.sizes.specs.Sizes.{capture_length, words, block_bits, client_blocks, parity_bytes, info_length, parity_length, blocks_of, block_bytes, list_length}
use Rattle.line.specs.Captures.{super_allowed}
use Rattle.line_order.specs.Order.{word_at}
use Rattle.code.specs.Code.{capture_of}
use Rattle.edit_spec.specs.Edit.{listed, list_of, client_spare_set, edit_answer, edit_leaves}
use Rattle.edit_spec.specs.Listed.{Holding, Lists}

-- client block b of the capture stands at bits 257 b .. 257 b + 256 of the information
unfoldable pub new_info : ℕ → ℕ → List ℕ → List ℕ → List ℕ
new_info N b bits info =
    pack (info_length N)
    (λ j. cond (leb (block_bits * b) j && ltb j (block_bits * b + block_bits)) (bit_at bits (j - block_bits * b)) (bit_at info j))

-- the parity of FEC block b / 952 stands at bytes 2,048 (b / 952) .. of the parity
unfoldable pub new_parity : ℕ → ℕ → List ℕ → List ℕ → List ℕ
new_parity N b parity par =
    tabulate (parity_length N) (λ k. cond (eqb (k / parity_bytes) (b / client_blocks)) (get_or parity (k % parity_bytes) 0) (get_or par k 0))

-- what is asked of an edit: any block of the capture, buffers of the stated lengths, spare bits zero. Every edit that document 01 allows is one:
-- `edit_input_all` of proofs/Allowed.antt
pub record EditInput (N b : ℕ) (bits parity list : List ℕ) : Type 0 where
  pub frames : super_allowed N ≡ true
  pub block : b < blocks_of N
  pub bits_long : length bits ≡ block_bytes
  pub spare : client_spare_set bits ≡ false
  pub parity_long : length parity ≡ parity_bytes
  pub list_long : length list ≡ list_length

-- what the edit comes to: the answer r, and what is left in the capture and in the list, whose entries past the listed words stay
pub record EditsAsCoded (N m0 b : ℕ) (bits parity info par list : List ℕ) (r : Answer) (left : List ℕ × List ℕ) : Type 0 where
  pub answer : r ≡ done (count (listed N b) (words N))
  pub buffers : left ≡ (capture_of N m0 (new_info N b bits info) (new_parity N b parity par), list_of N b ++ drop (count (listed N b) (words N)) list)

-- an edit of a coded capture: what it comes to, which words are listed, and that no byte of another word changes
pub record Demand3 (N m0 b : ℕ) (bits parity info par list : List ℕ) : Type 0 where
  pub edits : EditsAsCoded N m0 b bits parity info par list (edit_answer N b bits parity (capture_of N m0 info par) list)
      (edit_leaves N b bits parity (capture_of N m0 info par) list)
  pub lists : Lists N b (list_of N b)
  pub holding : (w : ℕ) → (listed N b w ≡ true → Holding N b w) × (Holding N b w → listed N b w ≡ true)
  pub kept : (i : ℕ) → i < capture_length N → listed N b (word_at i) ≡ false
      → get_or (capture_of N m0 (new_info N b bits info) (new_parity N b parity par)) i 0 ≡ get_or (capture_of N m0 info par) i 0
