-- WHAT WAS READ, WRITTEN, IS WHAT WAS READ. Assumes nothing.
use Prim.Native.Nat.{ℕ, zero, suc, ◌+◌, ◌-◌, ◌≤◌, ◌<◌}
use mathlib.Core.Bool.{false, not, ◌&&◌, ◌||◌}
use mathlib.Core.Path.{◌≡◌, refl, sym, ap, ◌∙◌}
use mathlib.Core.List.{List, ◌++◌}
use native.Mathlib.Omega.{arith}
use borrow.Author.Tests.{ltb-false, le-ltb, eq-eqb, eqb-true, not-false}
use lib.Dec.{ltb, eqb}
use lib.ListN.{length, get_or, take, drop, length-take, get_or-append}
use lib.Seq.{ext_get_or, take_at, take-add, drop-drop, get_or-take}
use Rattle.prelude.specs.Lists.{tabulate}
use Rattle.prelude.proofs.Common.{or_left, or_right}
use Rattle.prelude.proofs.Lists.{length-tabulate, get_d_tabulate}
use Rattle.bits.specs.Bits.{Bytes}
use Rattle.answer.specs.Numbers.{all_done}
use Rattle.answer.specs.Rows.{done}
use Rattle.answer.specs.Steps.{Passed, RowPassed, NoFault}
use Rattle.answer.specs.declared.Answer.{Answer}
use Rattle.answer.proofs.Turns.{all_passed, length_right, none_there}
use Rattle.answer.proofs.Meets.{written_done}
use Rattle.archive_spec.specs.File.{fixed_bytes, count_bytes, kind_bytes, field_bytes, entry_bytes, head_bytes, most_entries, field_most, bytes_of}
use Rattle.archive_spec.specs.File.{fixed, start_of, table_entry, head_to, count_in, kind_in, offset_in, length_in, kind_outside}
use Rattle.archive_spec.specs.Write.{nth, any_below, entry_outside, handed_in, write_outside, write_rows, write_answer, write_leaves}
use Rattle.archive_spec.specs.Read.{fixed_differs, is_no_archive, cut_off, bad_kind, off_rule, open_answer, overwritten, table_in, open_leaves}
use Rattle.archive_spec.specs.RoundTrip.{ReadWrite}
use Rattle.archive_spec.proofs.Fields.{bytes_of_law, number_lt}
use Rattle.archive_spec.proofs.Starts.{start_ext}
use Rattle.archive_spec.proofs.Heads.{fixed_long, head_none, head_more}
use Rattle.archive_spec.proofs.Judging.{Counted, none_below, ReadShown, open_shown, opened_count}

-- ---- what the tests have shown of entry e

pub record Ruled (size : ℕ) (s : List ℕ) (e : ℕ) : Type 0 where
  pub whole : head_bytes (suc e) ≤ size
  pub kind : kind_outside (kind_in s e) ≡ false
  pub offset : offset_in s e ≡ start_of (count_in s) (length_in s) e
  pub last : suc e ≡ count_in s → start_of (count_in s) (length_in s) (count_in s) ≡ size

ruled : (size : ℕ) (s : List ℕ) (e : ℕ) → bad_kind size s e ≡ false → off_rule size s (count_in s) e ≡ false → Ruled size s e
unfolding bad_kind off_rule
ruled size s e b r =
    let n = count_in s in
    let ends = start_of n (length_in s) n in
    let o = not (eqb (offset_in s e) (start_of n (length_in s) e)) in
    let l = eqb (suc e) n && not (eqb ends size) in
    let whole = or_left (cut_off size e) (o || l) r in
    let rest = or_right (cut_off size e) (o || l) r in
    record {
      whole = ltb-false size (head_bytes (suc e)) whole;
      kind = rw whole at b;
      offset = eqb-true (offset_in s e) (start_of n (length_in s) e) (not-false (eqb (offset_in s e) (start_of n (length_in s) e)) (or_left o l rest));
      last = λ z. eqb-true ends size (not-false (eqb ends size) (rw (eq-eqb (suc e) n z) at (or_right o l rest)));
    }

module _ (size : ℕ) (s : List ℕ) (k o l : ℕ) (bytes : Bytes s) (g : ReadShown size s k o l) where
  abbrev n : ℕ
  n = count_in s

  c : Counted n
  c = opened_count size s g.count

  each_ruled : (e : ℕ) → e < n → Ruled size s e
  each_ruled e h = ruled size s e (g.kind e h) (g.rule e h)

  -- the file's size is the end of its last body
  ends_there : start_of n (length_in s) n ≡ size
  ends_there =
      let m = n - 1 in
      let z : suc m ≡ n = omega (arith, c.some) in
      (each_ruled m (omega arith)).last z

  -- all of the head was read
  head_read : (e : ℕ) → e ≤ n → head_bytes e ≤ length s
  head_read e h = let w = (each_ruled (n - 1) (omega (arith, c.some))).whole in omega (arith, g.bytes, c.some, c.few)

  -- ---- its bytes are those of its numbers

  fixed_read : fixed ≡ take fixed_bytes s
  unfolding is_no_archive
  fixed_read =
      let same = none_below (fixed_differs s) fixed_bytes (or_right (ltb size fixed_bytes) (any_below (fixed_differs s) fixed_bytes) g.begins) in
      let long : length (take fixed_bytes s) ≡ fixed_bytes = rw (length-take fixed_bytes s) (omega (arith, head_read 0 (omega arith))) in
      ext_get_or 0 fixed (take fixed_bytes s) (fixed_long ∙ sym long)
      (λ i h.
      let m : i < fixed_bytes = omega (arith, fixed_long) in
      sym (eqb-true (get_or s i 0) (get_or fixed i 0) (not-false (eqb (get_or s i 0) (get_or fixed i 0)) (same i m))) ∙ sym (get_or-take fixed_bytes s i 0 m))

  entry_read : (e : ℕ) → e < n → table_entry (kind_in s e) (start_of n (length_in s) e) (length_in s e) ≡ take entry_bytes (drop (head_bytes e) s)
  unfolding table_entry
  entry_read e h =
      let r = head_read (suc e) (omega arith) in
      let p = drop (head_bytes e) s in
      let kind : bytes_of kind_bytes (kind_in s e) ≡ take kind_bytes p = bytes_of_law kind_bytes s (head_bytes e) bytes (omega arith) in
      let offset : bytes_of field_bytes (offset_in s e) ≡ take field_bytes (drop 1 p) =
      bytes_of_law field_bytes s (head_bytes e + 1) bytes (omega arith) ∙ ap (take field_bytes) (sym (drop-drop 1 (head_bytes e) s)) in
      let len : bytes_of field_bytes (length_in s e) ≡ take field_bytes (drop field_bytes (drop 1 p)) =
      bytes_of_law field_bytes s (head_bytes e + 5) bytes (omega arith)
      ∙ ap (take field_bytes) (sym (drop-drop 5 (head_bytes e) s) ∙ sym (drop-drop field_bytes 1 p)) in
      rw (← (each_ruled e h).offset, kind, offset, len)
      (ap (λ (t : List ℕ). take kind_bytes p ++ t) (sym (take-add field_bytes field_bytes (drop 1 p))) ∙ sym (take-add kind_bytes 8 p))

  -- so is the head
  head_again : (e : ℕ) → e ≤ n → head_to n (kind_in s) (length_in s) e ≡ take (head_bytes e) s
  head_again zero h =
      head_none n (kind_in s) (length_in s)
      ∙ rw (fixed_read, bytes_of_law count_bytes s fixed_bytes bytes (head_read 0 (omega arith))) (sym (take-add fixed_bytes count_bytes s))
  head_again (suc e) h =
      let far : head_bytes (suc e) ≡ head_bytes e + entry_bytes = omega arith in
      head_more n (kind_in s) (length_in s) e
      ∙ rw (head_again e (omega arith), entry_read e (omega arith), far) (sym (take-add (head_bytes e) entry_bytes s))

  -- ---- the lists that were filled, as lists to be written

  module _ (kinds lengths : List ℕ) (p : kinds ≡ tabulate n (kind_in s)) (q : lengths ≡ tabulate n (length_in s)) where
    kind_of : (e : ℕ) → e < n → nth kinds e ≡ kind_in s e
    kind_of e h = rw p (get_d_tabulate 0 n (kind_in s) e h)

    length_of : (e : ℕ) → e < n → nth lengths e ≡ length_in s e
    length_of e h = rw q (get_d_tabulate 0 n (length_in s) e h)

    start_of_law : (e : ℕ) → e ≤ n → start_of n (nth lengths) e ≡ start_of n (length_in s) e
    start_of_law e h = start_ext n (nth lengths) (length_in s) e (λ i m. length_of i (omega arith))

    head_of_law : (e : ℕ) → e ≤ n → head_to n (nth kinds) (nth lengths) e ≡ head_to n (kind_in s) (length_in s) e
    head_of_law zero h = head_none n (nth kinds) (nth lengths) ∙ sym (head_none n (kind_in s) (length_in s))
    head_of_law (suc e) h =
        head_more n (nth kinds) (nth lengths) e
        ∙ rw (head_of_law e (omega arith), kind_of e (omega arith), length_of e (omega arith), start_of_law e (omega arith)) (sym (head_more n (kind_in s) (length_in s) e))

    entry_good : (e : ℕ) → e < n → entry_outside n (nth kinds) (nth lengths) e ≡ false
    unfolding entry_outside
    entry_good e h =
        let r = each_ruled e h in
        rw (kind_of e h, length_of e h, start_of_law e (omega arith), ← r.offset, r.kind)
        (rw (le-ltb field_most (length_in s e) (omega (arith, number_lt field_bytes s (head_bytes e + 5)))) (le-ltb field_most (offset_in s e) (omega (arith, number_lt field_bytes s (head_bytes e + 1)))))

    none_bad : write_outside n kinds lengths ≡ false
    unfolding write_outside
    none_bad =
        rw (le-ltb n 1 c.some, le-ltb most_entries n c.few)
        (none_there (handed_in n kinds lengths) (entry_outside n (nth kinds) (nth lengths)) (λ e h. entry_good e (omega arith)))

    writes : (head : ℕ) → head ≡ head_bytes n → write_answer n kinds lengths head ≡ done (head_bytes n)
    unfolding write_answer Passed RowPassed NoFault
    writes head h =
        let k : length kinds ≡ n = ap length p ∙ length-tabulate n (kind_in s) in
        let l : length lengths ≡ n = ap length q ∙ length-tabulate n (length_in s) in
        all_passed (write_rows n kinds lengths head) (head_bytes n) (
          none_bad,
          ((length_right k, (length_right l, (length_right h, tt))), tt),
        )

over_at : (n : ℕ) (f : ℕ → ℕ) (old : List ℕ) (e : ℕ) → e < n → nth (overwritten n f old) e ≡ f e
over_at n f old e h = get_or-append (tabulate n f) (drop n old) 0 e (rw length-tabulate h) ∙ get_d_tabulate 0 n f e h

-- "both ways": what a granted read gave
pub read_write : (size : ℕ) (s kinds offsets lengths : List ℕ) → Bytes s
    → (open_answer size s (length kinds) (length offsets) (length lengths)).number ≡ all_done → ReadWrite size s (open_leaves size s kinds offsets lengths)
unfolding open_leaves write_leaves
read_write size s kinds offsets lengths bytes z =
    let g = open_shown size s (length kinds) (length offsets) (length lengths) refl z in
    let n = count_in s in
    let left : open_leaves size s kinds offsets lengths ≡ table_in s kinds offsets lengths =
    written_done (open_answer size s (length kinds) (length offsets) (length lengths)) (table_in s kinds offsets lengths) (kinds, (offsets, lengths)) z in
    let p : take n (overwritten n (kind_in s) kinds) ≡ tabulate n (kind_in s) = take_at (tabulate n (kind_in s)) (drop n kinds) n (length-tabulate n (kind_in s)) in
    let q : take n (overwritten n (length_in s) lengths) ≡ tabulate n (length_in s) = take_at (tabulate n (length_in s)) (drop n lengths) n (length-tabulate n (length_in s)) in
    let lens : (e : ℕ) → e ≤ n → start_of n (nth (overwritten n (length_in s) lengths)) e ≡ start_of n (length_in s) e =
    λ e h. start_ext n (nth (overwritten n (length_in s) lengths)) (length_in s) e (λ i m. over_at n (length_in s) lengths i (omega arith)) in
    let w = writes size s (length kinds) (length offsets) (length lengths) bytes g _ _ p q in
    rw left
    (record {
      answer = λ head h. w (length head) h;
      head =
          λ head h.
          written_done _ _ head (ap (λ (a : Answer). a.number) (w (length head) h))
          ∙ head_of_law size s (length kinds) (length offsets) (length lengths) bytes g _ _ p q n (omega arith)
          ∙ head_again size s (length kinds) (length offsets) (length lengths) bytes g n (omega arith);
      offsets =
          λ e h.
          over_at n (offset_in s) offsets e h
          ∙ (each_ruled size s (length kinds) (length offsets) (length lengths) bytes g e h).offset
          ∙ sym (lens e (omega arith));
      end = lens n (omega arith) ∙ ends_there size s (length kinds) (length offsets) (length lengths) bytes g;
    })
