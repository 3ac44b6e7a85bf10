-- The request for the information of an FEC block: the table, the part, and what a granted request has shown. Assumes nothing.
use Prim.Native.Nat.{ℕ, ◌+◌, ◌-◌, ◌*◌, ◌≤◌, ◌<◌}
use mathlib.Core.Bool.{true, ◌&&◌}
use mathlib.Core.Path.{◌≡◌, refl, sym, ap, ◌∙◌}
use mathlib.Core.List.{List, [], ◌∷◌}
use native.Mathlib.Nat.{add-sub_cancel_left}
use native.Mathlib.Omega.{arith}
use borrow.Author.Tests.{ltb-true, not-false}
use lib.Dec.{ltb}
use lib.ListN.{length, take, drop}
use Rattle.prelude.proofs.Common.{and_right}
use Rattle.prelude.proofs.Lists.{part_long}
use Rattle.answer.specs.Numbers.{all_done, wrong_length}
use Rattle.answer.specs.Rows.{Row, done, wrong, FirstFault, row_number, rising}
use Rattle.answer.specs.Demand1.{Exactly}
use Rattle.answer.specs.Steps.{NoFault, RowPassed, Passed}
use Rattle.answer.specs.declared.Answer.{Answer}
use Rattle.answer.proofs.Table.{exactly}
use Rattle.answer.proofs.Buffers.{which_buffer}
use Rattle.answer.proofs.Turns.{in_turn_law, passed, right_length}
use Rattle.answer.proofs.Meets.{written_done, written_refused}
use Rattle.sizes.specs.Sizes.{info_bytes, fec_blocks, info_length, most_frames}
use Rattle.line.specs.Captures.{super_allowed}
use Rattle.line.proofs.CaptureLaws.{frames_in}
use Rattle.capture.specs.Part.{part_rows, part_answer, part_of}

part_rise : (N t info : ℕ) → rising 0 (part_rows N t info) ≡ true
unfolding rising part_rows row_number
part_rise N t info = refl

-- a granted request
pub record Part (N t : ℕ) (info : List ℕ) : Type 0 where
  pub few : N ≤ most_frames
  pub block : t < fec_blocks * N
  pub long : length info ≡ info_length N

module _ (N t : ℕ) (info : List ℕ) where
  abbrev rows : List Row
  rows = part_rows N t (length info)

  -- the part itself, as the code cuts it out
  abbrev part : List ℕ
  part = take info_bytes (drop (info_bytes * t) info)

  -- DEMAND 1 of a request: number k at place p is answered exactly if it is the least that applies; done exactly if nothing does
  pub part_exactly : Exactly rows 0 (part_answer N t info)
  unfolding part_answer
  part_exactly = exactly rows 0 (part_rise N t (length info))

  -- number 2 names the information, the one buffer
  pub part_names : (part_answer N t info).number ≡ wrong_length → FirstFault 1 (wrong (info_length N) (length info) ∷ []) (part_answer N t info).place
  unfolding part_rows
  part_names = which_buffer (_ ∷ []) wrong_length _ [] 0 (part_rise N t (length info)) part_exactly

  module _ {r : Answer} (e : r ≡ part_answer N t info) where
    pub granted_part : r.number ≡ all_done → Part N t info
    unfolding part_answer part_rows Passed RowPassed NoFault
    granted_part z =
        let p = passed rows (done 0) (part_rise N t (length info)) (e ∙ in_turn_law rows 0) z in
        let q = not-false (super_allowed N && ltb t (fec_blocks * N)) p.0 in
        record {
          few = (frames_in N (ltb t (fec_blocks * N)) refl p.0).few;
          block = ltb-true t (fec_blocks * N) (and_right (super_allowed N) (ltb t (fec_blocks * N)) q);
          long = right_length p.1.0.0;
        }

    pub part_given : r.number ≡ all_done → take (info_bytes * t + info_bytes - info_bytes * t) (drop (info_bytes * t) info) ≡ part_of N t info
    unfolding part_of
    part_given z =
        ap (λ (k : ℕ). take k (drop (info_bytes * t) info)) (add-sub_cancel_left (info_bytes * t) info_bytes)
        ∙ sym (written_done (part_answer N t info) part [] (ap (λ (x : Answer). x.number) (sym e) ∙ z))

    -- or the empty part
    pub part_empty : (r.number ≡ all_done → ⊥) → [] ≡ part_of N t info
    unfolding part_of
    part_empty z = sym (written_refused (part_answer N t info) part [] (λ h. z (ap (λ (x : Answer). x.number) e ∙ h)))

  -- a granted part is 30,583 bytes, so it is never the empty part
  pub granted_long : (part_answer N t info).number ≡ all_done → length (part_of N t info) ≡ info_bytes
  unfolding part_of
  granted_long z =
      let p = granted_part refl z in
      ap length (written_done (part_answer N t info) part [] z) ∙ part_long (info_bytes * t) info_bytes info (omega (arith, p.few, p.block, p.long))
