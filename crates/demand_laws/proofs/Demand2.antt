-- DEMAND 2: one to eight super frames, coded and flushed, read back to every client and parity bit even with one flipped bit in each word,
-- and the count of such words is exact. Assumes nothing.
use Prim.Native.Nat.{ℕ, ◌+◌, ◌*◌, ◌^◌, ◌<◌}
use mathlib.Core.Bool.{Bool, true, false, cond, not, ◌&&◌}
use mathlib.Core.Path.{◌≡◌, refl, sym, ap, ◌∙◌}
use mathlib.Core.List.{List}
use native.Mathlib.Omega.{arith}
use borrow.Author.Tests.{ltb-true, eq-eqb, ne_eqb}
use lib.Dec.{ltb, eqb}
use lib.ListN.{length, replicate}
use Rattle.bits.specs.Bits.{num, Bits}
use Rattle.prelude.specs.Loops.{count}
use Rattle.bits.proofs.Numbers.{num_is, num-zero}
use Rattle.prelude.proofs.Counting.{count_ext}
use Rattle.answer.specs.Rows.{done, answer_of}
use Rattle.answer.specs.Steps.{NoFault, RowPassed, Passed}
use Rattle.answer.specs.declared.Answer.{Answer}
use Rattle.answer.proofs.Turns.{early_passed, all_passed, length_right, none_there}
use Rattle.answer.proofs.Meets.{written_done}
use Rattle.crc.specs.Crc.{crc_of}
use Rattle.crc.proofs.Changes.{crc_ext, crc_lt}
use Rattle.hamming.specs.Code.{checks_of, flip}
use Rattle.hamming.specs.Repair.{repair_of, found_number}
use Rattle.hamming.specs.declared.Repaired.{Repaired}
use Rattle.hamming.proofs.Words.{coded_checks}
use Rattle.hamming.proofs.Flipping.{flip_long}
use Rattle.hamming.proofs.Repairs.{none_kept, flip_seen, flip_repaired}
use Rattle.sizes.specs.Sizes.{info_bits, crc_bits, mbas_bits, mbas_from, parity_from, fec_bits, fec_blocks, pad_from, pad_bits, info_length, parity_length}
use Rattle.sizes.specs.Sizes.{capture_length, words, word_bytes, word_bits}
use Rattle.line.proofs.CaptureLaws.{in_frames}
use Rattle.line.specs.Fec.{mbas_allowed, mbas_of, info_bit, block_crc, fec_bit}
use Rattle.line.specs.Frames.{super_of, element_of, info_of, parity_of}
use Rattle.line.specs.Slots.{holds, slot_bit}
use Rattle.line_order.specs.Order.{word_in}
use Rattle.line.specs.Words.{words_of, super_in, fec_in}
use Rattle.line.proofs.FecLaws.{mbas_lt, info_bits_law, fec_info, fec_crc, fec_mbas, fec_parity, fec_bits_law, info_back, parity_back}
use Rattle.line.proofs.FrameLaws.{super_pad}
use Rattle.line_order.proofs.OrderLaws.{length-laid, word-laid}
use Rattle.code.specs.Code.{capture_of}
use Rattle.code.proofs.Coding.{word_filler}
use Rattle.read_spec.specs.Read.{repaired, all_zero, is_beyond, is_filled, mbas_differs, crc_differs, pad_differs, is_seen, read_early_rows, read_late_rows}
use Rattle.read_spec.specs.Read.{read_answer, given, read_leaves}
use Rattle.demand_laws.specs.Demand2.{Input, Flips, is_flipped, flip_if, flipped, how_many, Demand2}
use Rattle.demand_laws.proofs.ReadLaws.{words_long, held_bits, super_read, fec_read}

-- ---- a code word with at most one bit flipped

pub record FlippedIf (v : List ℕ) (p : ℕ) : Type 0 where
  pub long : length (flip_if v p) ≡ word_bytes
  pub back : (repair_of (flip_if v p)).word ≡ v
  pub found : found_number (repair_of (flip_if v p)).found ≡ 0
  pub seen : not (eqb (checks_of (flip_if v p)) 0) ≡ ltb p word_bits

flip_if_by : (v : List ℕ) (p : ℕ) (b : Bool) → ltb p word_bits ≡ b → length v ≡ word_bytes → checks_of v ≡ 0
    → (length (cond b (flip v p) v) ≡ word_bytes) × ((repair_of (cond b (flip v p) v)).word ≡ v) × (found_number (repair_of (cond b (flip v p) v)).found ≡ 0)
    × (not (eqb (checks_of (cond b (flip v p) v)) 0) ≡ b)
flip_if_by v p true e long clean =
    let h : p < word_bits = ltb-true p word_bits e in
    let r = flip_repaired v long clean p h in (
      flip_long v p ∙ long,
      ap (λ (x : Repaired). x.word) r,
      ap (λ (x : Repaired). found_number x.found) r,
      ap not
          (ne_eqb (checks_of (flip v p)) 0 (flip_seen v long clean p h)),
    )
flip_if_by v p false e long clean =
    let r = none_kept v clean in
    (long, ap (λ (x : Repaired). x.word) r, ap (λ (x : Repaired). found_number x.found) r, ap not (eq-eqb (checks_of v) 0 clean))

pub flip_if_word : (v : List ℕ) (p : ℕ) → length v ≡ word_bytes → checks_of v ≡ 0 → FlippedIf v p
unfolding flip_if
flip_if_word v p long clean =
    let h = flip_if_by v p (ltb p word_bits) refl long clean in record { long = h.0; back = h.1; found = h.2; seen = h.3 }

zeros : all_zero (replicate word_bytes 0) ≡ true
unfolding all_zero
zeros = refl

-- ---- the capture with its flips, read

module _ (N m0 : ℕ) (info par : List ℕ) (flips : Flips) where
  abbrev F : ℕ → ℕ → ℕ
  F = fec_bit m0 info par

  abbrev cap : List ℕ
  cap = flipped N flips (capture_of N m0 info par)

  bits : (t : ℕ) → Bits (F t)
  bits t = fec_bits_law m0 info par t

  pub clean : (w : ℕ) → checks_of (words_of N F w) ≡ 0
  unfolding words_of
  clean w = coded_checks (slot_bit N (element_of (super_of F)) w) (held_bits N F w)

  flip_if_at : (w : ℕ) → FlippedIf (words_of N F w) (flips w)
  flip_if_at w = flip_if_word (words_of N F w) (flips w) (words_long N F w) (clean w)

  coded_word : (w : ℕ) → w < words N → word_in (capture_of N m0 info par) w ≡ words_of N F w
  unfolding capture_of
  coded_word w h = word-laid N (words_of N F) w h (words_long N F w)

  flipped_word_law : (w : ℕ) → w < words N → word_in cap w ≡ flip_if (words_of N F w) (flips w)
  unfolding flipped
  flipped_word_law w h =
      let e : flip_if (word_in (capture_of N m0 info par) w) (flips w) ≡ flip_if (words_of N F w) (flips w) = ap (λ (s : List ℕ). flip_if s (flips w)) (coded_word w h) in
      word-laid N (λ x. flip_if (word_in (capture_of N m0 info par) x) (flips x)) w h (ap length e ∙ (flip_if_at w).long) ∙ e

  -- every word comes back
  pub words_back : (w : ℕ) → w < words N → repaired cap w ≡ words_of N F w
  unfolding repaired
  words_back w h = ap (λ (s : List ℕ). (repair_of s).word) (flipped_word_law w h) ∙ (flip_if_at w).back

  -- ---- no row applies

  pub no_4 : (w : ℕ) → w < words N → is_beyond cap w ≡ false
  unfolding is_beyond
  no_4 w h = rw (flipped_word_law w h, (flip_if_at w).found)

  filler_zero : (w : ℕ) → w < words N → (b : Bool) → holds N w ≡ b → not b && not (all_zero (repaired cap w)) ≡ false
  filler_zero w h true e = refl
  filler_zero w h false e = rw (words_back w h, ← (word_filler N F w e), zeros)

  pub no_5 : (w : ℕ) → w < words N → is_filled N cap w ≡ false
  unfolding is_filled
  no_5 w h = filler_zero w h (holds N w) refl

  pub block_read : (t i : ℕ) → t < fec_blocks * N → i < fec_bits → fec_in (repaired cap) t i ≡ F t i
  block_read = fec_read N F (repaired cap) words_back bits

  pub mbas_read : (t : ℕ) → t < fec_blocks * N → num mbas_bits (fec_in (repaired cap) t) mbas_from ≡ mbas_of m0 t
  mbas_read t h =
      num_is mbas_bits (fec_in (repaired cap) t) mbas_from (mbas_of m0 t) (mbas_lt m0 t)
      (λ j l. block_read t (mbas_from + j) h (omega arith) ∙ fec_mbas m0 info par t j l)

  no_6 : (t : ℕ) → t < fec_blocks * N → mbas_differs m0 cap t ≡ false
  unfolding mbas_differs
  no_6 t h = ap not (eq-eqb (num mbas_bits (fec_in (repaired cap) t) mbas_from) (mbas_of m0 t) (mbas_read t h))

  crc_small : (t : ℕ) → block_crc info t < 2 ^ crc_bits
  unfolding block_crc
  crc_small t = crc_lt info_bits (info_bit info t) (info_bits_law info t)

  crc_read : (t : ℕ) → t < fec_blocks * N → crc_of info_bits (fec_in (repaired cap) t) ≡ block_crc info t
  unfolding block_crc
  crc_read t h = crc_ext info_bits (fec_in (repaired cap) t) (info_bit info t) (λ i l. block_read t i h (omega arith) ∙ fec_info m0 info par t i l)

  no_7 : (t : ℕ) → t < fec_blocks * N → crc_differs cap t ≡ false
  unfolding crc_differs
  no_7 t h =
      let e : num crc_bits (fec_in (repaired cap) t) info_bits ≡ block_crc info t =
      num_is crc_bits (fec_in (repaired cap) t) info_bits (block_crc info t) (crc_small t)
      (λ j l. block_read t (info_bits + j) h (omega arith) ∙ fec_crc m0 info par t j l) in
      ap not (eq-eqb (num crc_bits (fec_in (repaired cap) t) info_bits) (crc_of info_bits (fec_in (repaired cap) t)) (e ∙ sym (crc_read t h)))

  no_8 : (f : ℕ) → f < N → pad_differs cap f ≡ false
  unfolding pad_differs
  no_8 f h =
      let e : num pad_bits (super_in (repaired cap) f) pad_from ≡ 0 =
      num-zero pad_bits (super_in (repaired cap) f) pad_from
      (λ j l. super_read N F (repaired cap) words_back bits f (pad_from + j) h (omega arith) ∙ super_pad F f (pad_from + j) (omega arith)) in
      ap not (eq-eqb (num pad_bits (super_in (repaired cap) f) pad_from) 0 e)

  -- the count is exact
  seen_flipped : (w : ℕ) → w < words N → is_seen cap w ≡ is_flipped flips w
  unfolding is_seen
  seen_flipped w h = rw (flipped_word_law w h) (flip_if_at w).seen

  counted : count (is_seen cap) (words N) ≡ how_many N flips
  unfolding how_many
  counted = count_ext (is_seen cap) (is_flipped flips) (words N) seen_flipped

  late_passed : Passed (read_late_rows N m0 cap)
  unfolding read_late_rows Passed RowPassed
  late_passed = (
    none_there (words N) (is_beyond cap) no_4,
    (
      none_there (words N) (is_filled N cap) no_5,
      (
        none_there (fec_blocks * N) (mbas_differs m0 cap) no_6,
        (none_there (fec_blocks * N) (crc_differs cap) no_7, (none_there N (pad_differs cap) no_8, tt)),
      ),
    ),
  )

  -- none of numbers 4 to 8 applies
  pub coded_late_done : answer_of (read_late_rows N m0 cap) (count (is_seen cap) (words N)) ≡ done (how_many N flips)
  coded_late_done = all_passed (read_late_rows N m0 cap) (count (is_seen cap) (words N)) late_passed ∙ ap done counted

  pub cap_long : length cap ≡ capture_length N
  unfolding flipped
  cap_long = length-laid N (λ w. flip_if (word_in (capture_of N m0 info par) w) (flips w))

  module _ (input : Input N m0 info par) where
    info_read : info_of N (fec_in (repaired cap)) ≡ info
    info_read =
        info_back N (fec_in (repaired cap)) info input.info_long input.info_are_bytes
        (λ t i ht hi. block_read t i ht (omega arith) ∙ fec_info m0 info par t i hi)

    parity_read : parity_of N (fec_in (repaired cap)) ≡ par
    parity_read =
        parity_back N (fec_in (repaired cap)) par input.parity_long input.parity_are_bytes
        (λ t j ht hj. block_read t (parity_from + j) ht (omega arith) ∙ fec_parity m0 info par t j)

    -- what is given back is the input
    pub given_input : given N cap ≡ (info, par)
    given_input = rw (info_read, parity_read)

    module _ (info₀ par₀ : List ℕ) (info₀-long : length info₀ ≡ info_length N) (par₀-long : length par₀ ≡ parity_length N) where
      -- numbers 1 and 2 do not apply, whatever the first number is that is read with
      pub early_passed_by : (m1 : ℕ) → mbas_allowed m1 ≡ true → Passed (read_early_rows N m1 (length cap) (length info₀) (length par₀))
      unfolding read_early_rows Passed RowPassed NoFault
      early_passed_by m1 e =
          (in_frames N input.frames e, ((length_right cap_long, (length_right info₀-long, (length_right par₀-long, tt))), tt))

      answers_done : read_answer N m0 cap info₀ par₀ ≡ done (how_many N flips)
      unfolding read_answer
      answers_done =
          early_passed (read_early_rows N m0 (length cap) (length info₀) (length par₀)) (read_late_rows N m0 cap) (count (is_seen cap) (words N))
          (early_passed_by m0 input.number)
          ∙ coded_late_done

      leaves_input : read_leaves N m0 cap info₀ par₀ ≡ (info, par)
      unfolding read_leaves
      leaves_input =
          written_done (read_answer N m0 cap info₀ par₀) (given N cap) (info₀, par₀) (ap (λ (a : Answer). a.number) answers_done) ∙ given_input

-- ---- the theorem

pub demand_2 : (N m0 : ℕ) (info par : List ℕ) → Input N m0 info par → (flips : Flips) → Demand2 N m0 info par flips
demand_2 N m0 info par input flips info₀ par₀ i₀ p₀ =
    record { answer = answers_done N m0 info par flips input info₀ par₀ i₀ p₀; buffers = leaves_input N m0 info par flips input info₀ par₀ i₀ p₀ }
