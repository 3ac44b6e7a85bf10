-- WHAT WAS WRITTEN IS READ. Assumes nothing.
use Prim.Native.Nat.{ℕ, zero, suc, ◌≤◌, ◌<◌, min}
use mathlib.Core.Bool.{Bool, true, false, ◌&&◌}
use mathlib.Core.Path.{◌≡◌, refl, sym, ap, ◌∙◌}
use mathlib.Core.List.{List}
use native.Mathlib.Omega.{arith}
use borrow.Author.Tests.{le-ltb, eq-eqb}
use lib.Dec.{eqb}
use lib.ListN.{length, get_or, take, drop, length-append, length-take}
use lib.Seq.{take-take, get_or-take}
use Rattle.prelude.specs.Lists.{tabulate}
use Rattle.prelude.specs.Loops.{upto}
use Rattle.prelude.proofs.Lists.{tabulate_ext}
use Rattle.answer.specs.Numbers.{all_done}
use Rattle.answer.specs.Rows.{done}
use Rattle.answer.specs.Steps.{Passed, RowPassed, NoFault}
use Rattle.answer.specs.declared.Answer.{Answer}
use Rattle.answer.proofs.Turns.{all_passed, length_right, none_there}
use Rattle.answer.proofs.Meets.{written_done}
use Rattle.archive_spec.specs.File.{fixed_bytes, head_bytes, most_entries, most_head_bytes}
use Rattle.archive_spec.specs.File.{fixed, start_of, head_of, file_of, count_in, kind_in, offset_in, length_in}
use Rattle.archive_spec.specs.Write.{nth, write_answer, write_leaves}
use Rattle.archive_spec.specs.Read.{fixed_differs, is_no_archive, at_place, bad_count, bad_kind, off_rule, open_early_rows, open_late_rows, open_rows, open_answer, overwritten, table_in}
use Rattle.archive_spec.specs.Read.{open_leaves}
use Rattle.archive_spec.specs.RoundTrip.{WriteRead}
use Rattle.archive_spec.specs.Steps.{Inside}
use Rattle.archive_spec.proofs.Starts.{start_none, start_more, start_ext, start_behind, outside_at_law, inside_of, kind_small}
use Rattle.archive_spec.proofs.Heads.{front_stays, piece_stands, head_long}
use Rattle.archive_spec.proofs.Heads.{fixed_in, count_in_law, kind_in_law, offset_in_law, length_in_law}
use Rattle.archive_spec.proofs.Judging.{Counted, written_head, head_counted}

-- ---- a file that begins with a head, whose size is the end of its last body, is opened

module _ (n : ℕ) (kind len : ℕ → ℕ) (size : ℕ) (s : List ℕ) (c : Counted n) (inside : (e : ℕ) → e < n → Inside (kind e) (start_of n len e) (len e))
    (b : take (head_bytes n) s ≡ head_of n kind len) (ends : size ≡ start_of n len n) (long : length s ≡ min size most_head_bytes) where
  counts_read : count_in s ≡ n
  counts_read = count_in_law n kind len s b c.few

  kinds_read : (e : ℕ) → e < n → kind_in s e ≡ kind e
  kinds_read e l = kind_in_law n kind len s b e l (kind_small (inside e l).kind_inside)

  offsets_read : (e : ℕ) → e < n → offset_in s e ≡ start_of n len e
  offsets_read e l = offset_in_law n kind len s b e l (inside e l).from_inside

  lengths_read : (e : ℕ) → e < n → length_in s e ≡ len e
  lengths_read e l = length_in_law n kind len s b e l (inside e l).len_inside

  starts_read : (e : ℕ) → e ≤ n → start_of n (length_in s) e ≡ start_of n len e
  starts_read e l = start_ext n (length_in s) len e (λ k h. lengths_read k (omega arith))

  whole_head : head_bytes n ≤ size
  whole_head = rw ends (start_behind n len n)

  archive_known : is_no_archive size s ≡ false
  unfolding is_no_archive
  archive_known =
      rw (le-ltb size fixed_bytes (omega (arith, whole_head)))
      (none_there fixed_bytes (fixed_differs s)
      (λ k l. rw (eq-eqb (get_or s k 0) (get_or fixed k 0) (sym (get_or-take fixed_bytes s k 0 l) ∙ ap (λ (t : List ℕ). get_or t k 0) (fixed_in n kind len s b)))))

  count_good : bad_count size s ≡ false
  unfolding bad_count
  count_good = rw (le-ltb size (head_bytes 0) (omega (arith, whole_head)), counts_read, le-ltb n 1 c.some, le-ltb most_entries n c.few)

  kind_good : (e : ℕ) → e < n → bad_kind size s e ≡ false
  unfolding bad_kind
  kind_good e l = rw (kinds_read e l, le-ltb size (head_bytes (suc e)) (omega (arith, whole_head))) (inside e l).kind_inside

  rule_good : (e : ℕ) → e < n → off_rule size s n e ≡ false
  unfolding off_rule
  rule_good e l =
      rw (
        le-ltb size (head_bytes (suc e)) (omega (arith, whole_head)),
        eq-eqb (offset_in s e) (start_of n (length_in s) e) (offsets_read e l ∙ sym (starts_read e (omega arith))),
        eq-eqb (start_of n (length_in s) n) size (starts_read n (omega arith) ∙ sym ends),
      ) (and_false (eqb (suc e) n))
    where
      and_false : (t : Bool) → t && false ≡ false
      and_false true = refl
      and_false false = refl

  passes : Passed (open_rows size s most_entries most_entries most_entries)
  unfolding open_early_rows open_late_rows Passed RowPassed NoFault
  passes = (
    (length_right long, (refl, (refl, (refl, tt)))),
    (archive_known, (none_there (suc (count_in s)) (at_place (bad_count size s) (bad_kind size s)) at_11, (none_there (suc (count_in s)) (at_place false (off_rule size s (count_in s))) at_12, tt))),
  )
    where
      at_11 : (p : ℕ) → p < suc (count_in s) → at_place (bad_count size s) (bad_kind size s) p ≡ false
      at_11 zero l = count_good
      at_11 (suc e) l = kind_good e (omega (arith, counts_read))

      at_12 : (p : ℕ) → p < suc (count_in s) → at_place false (off_rule size s (count_in s)) p ≡ false
      at_12 zero l = refl
      at_12 (suc e) l = rw counts_read (rule_good e (omega (arith, counts_read)))

  opens : open_answer size s most_entries most_entries most_entries ≡ done n
  unfolding open_answer
  opens = all_passed (open_rows size s most_entries most_entries most_entries) (count_in s) passes ∙ ap done counts_read

  listed : (k o l : List ℕ)
      → ◌≡◌ {A = List ℕ × (List ℕ × List ℕ)} (table_in s k o l) (overwritten n kind k, (overwritten n (start_of n len) o, overwritten n len l))
  listed k o l =
      let x : tabulate n (kind_in s) ≡ tabulate n kind = tabulate_ext n (kind_in s) kind kinds_read in
      let y : tabulate n (offset_in s) ≡ tabulate n (start_of n len) = tabulate_ext n (offset_in s) (start_of n len) offsets_read in
      let z : tabulate n (length_in s) ≡ tabulate n len = tabulate_ext n (length_in s) len lengths_read in
      rw (counts_read, x, y, z)

  opens_lists : (k o l : List ℕ) → length k ≡ most_entries → length o ≡ most_entries → length l ≡ most_entries
      → (open_answer size s (length k) (length o) (length l) ≡ done n)
      × (open_leaves size s k o l ≡ (overwritten n kind k, (overwritten n (start_of n len) o, overwritten n len l)))
  unfolding open_leaves
  opens_lists k o l p q r =
      let a : open_answer size s (length k) (length o) (length l) ≡ done n = rw (p, q, r) opens in
      (a, written_done (open_answer size s (length k) (length o) (length l)) (table_in s k o l) (k, (o, l)) (ap (λ (x : Answer). x.number) a) ∙ listed k o l)

-- ---- what was written is read

module _ (n : ℕ) (kind len : ℕ → ℕ) (body : ℕ → List ℕ) (fill : (e : ℕ) → e < n → length (body e) ≡ len e) where
  file_long : (e : ℕ) → e ≤ n → length (file_of n kind len body e) ≡ start_of n len e
  unfolding file_of upto
  file_long zero l = head_long n kind len n ∙ sym (start_none n len)
  file_long (suc e) l =
      length-append (file_of n kind len body e) (body e)
      ∙ rw (file_long e (omega arith), fill e (omega arith)) (sym (start_more n len e))

  file_begins : take (head_bytes n) (file_of n kind len body n) ≡ head_of n kind len
  unfolding file_of upto
  file_begins =
      ap (λ (k : ℕ). take k (file_of n kind len body n)) (sym (head_long n kind len n))
      ∙ front_stays (head_of n kind len) body 0 n (omega arith)

  body_stands : (e : ℕ) → e < n → take (len e) (drop (start_of n len e) (file_of n kind len body n)) ≡ body e
  unfolding file_of
  body_stands e l =
      let p = fill e l in
      let q = file_long e (omega arith) in
      rw (← p, ← q) (piece_stands (head_of n kind len) body e n l)

-- "agrees with reading": a head that was written, with bodies of those lengths behind it
pub write_read : (n : ℕ) (kinds lengths head : List ℕ) (body : ℕ → List ℕ) → (write_answer n kinds lengths (length head)).number ≡ all_done
    → ((e : ℕ) → e < n → length (body e) ≡ nth lengths e)
    → WriteRead n kinds lengths head (file_of n (nth kinds) (nth lengths) body n) body
unfolding write_leaves
write_read n kinds lengths head body z fill =
    let h = written_head n kinds lengths head refl z in
    let f = file_of n (nth kinds) (nth lengths) body n in
    let ends = file_long n (nth kinds) (nth lengths) body fill n (omega arith) in
    let b : take (head_bytes n) (take most_head_bytes f) ≡ head_of n (nth kinds) (nth lengths) =
    take-take (head_bytes n) most_head_bytes f (omega (arith, h.few)) ∙ file_begins n (nth kinds) (nth lengths) body fill in
    let long : length (take most_head_bytes f) ≡ min (length f) most_head_bytes = rw (length-take most_head_bytes f) (omega arith) in
    let fits : (e : ℕ) → e < n → Inside (nth kinds e) (start_of n (nth lengths) e) (nth lengths e) =
    λ e l. inside_of (nth kinds e) (start_of n (nth lengths) e) (nth lengths e) refl
    (outside_at_law n (nth kinds) (nth lengths) e (start_of n (nth lengths) e) refl ∙ h.inside e l) in
    let open_shown = opens_lists n (nth kinds) (nth lengths) (length f) (take most_head_bytes f) (head_counted n kinds lengths head z) fits b ends long in
    record {
      begins = file_begins n (nth kinds) (nth lengths) body fill
          ∙ sym (written_done (write_answer n kinds lengths (length head)) (head_of n (nth kinds) (nth lengths)) head z);
      answer = λ k o l p q r. (open_shown k o l p q r).0;
      lists = λ k o l p q r. (open_shown k o l p q r).1;
      stands = body_stands n (nth kinds) (nth lengths) body fill;
      end = ends;
    }
