-- Pieces one behind the other, and so the head and the file: how long they are, and where each piece stands. Assumes nothing.
use Prim.Native.Nat.{ℕ, zero, suc, ◌+◌, ◌≤◌, ◌<◌}
use mathlib.Core.Path.{◌≡◌, refl, sym, ap, ◌∙◌}
use mathlib.Core.List.{List, [], ◌∷◌, ◌++◌, append-nil, append_assoc}
use native.Mathlib.Nat.{add-zero}
use native.Mathlib.Omega.{arith}
use lib.ListN.{length, get_or, take, drop, length-append, length-drop}
use lib.Seq.{take-length, take-append-le, drop-append-le, drop-append_seam, take-take, drop-drop, take_at, drop_at}
use Rattle.prelude.specs.Lists.{tabulate}
use Rattle.prelude.specs.Loops.{upto}
use Rattle.prelude.proofs.Common.{by_bound}
use Rattle.prelude.proofs.Lists.{tabulate-get_or}
use Rattle.archive_spec.specs.File.{fixed_bytes, count_bytes, kind_bytes, field_bytes, entry_bytes, head_bytes, most_entries, field_most, bytes_of, fixed}
use Rattle.archive_spec.specs.File.{start_of, table_entry, head_to, head_of, count_in, kind_in, offset_in, length_in}
use Rattle.archive_spec.proofs.Fields.{bytes_long, number_of_law}

-- ---- pieces g 0, g 1, .. behind a

abbrev joined : List ℕ → (ℕ → List ℕ) → ℕ → List ℕ
joined a g m = upto (λ k s. s ++ g k) a m

-- a part of a list stands where it stood when something comes behind it, or when something behind it goes
inside : (xs ys : List ℕ) (a k : ℕ) → a + k ≤ length xs → take k (drop a (xs ++ ys)) ≡ take k (drop a xs)
inside xs ys a k h =
    ap (take k) (drop-append-le a xs ys (omega arith)) ∙ take-append-le k (drop a xs) ys (rw length-drop (omega arith))

pub part_of_front : (k a m : ℕ) (s : List ℕ) → a + k ≤ m → take k (drop a (take m s)) ≡ take k (drop a s)
part_of_front k zero m s h = take-take k m s (omega arith)
part_of_front k (suc a) zero s h = absurd (omega arith)
part_of_front k (suc a) (suc m) [] h = refl
part_of_front k (suc a) (suc m) (x ∷ s) h = part_of_front k a m s (omega arith)

module _ (a : List ℕ) (g : ℕ → List ℕ) where
  piece_more : (m : ℕ) → joined a g (suc m) ≡ joined a g m ++ g m
  unfolding upto
  piece_more m = refl

  piece_long : (m : ℕ) → length (joined a g (suc m)) ≡ length (joined a g m) + length (g m)
  piece_long m = ap length (piece_more m) ∙ length-append (joined a g m) (g m)

  grows : (e m : ℕ) → e ≤ m → length (joined a g e) ≤ length (joined a g m)
  grows e zero h = let z : e ≡ 0 = omega arith in rw z (omega arith)
  grows e (suc m) h =
      by_bound (suc m) e (λ (l : e < suc m). omega (arith, grows e m (omega arith), piece_long m))
      (λ (l : suc m ≤ e). let z : e ≡ suc m = omega arith in rw z (omega arith))

  -- what stands in front stays in front
  pub front_stays : (e m : ℕ) → e ≤ m → take (length (joined a g e)) (joined a g m) ≡ joined a g e
  front_stays e zero h = let z : e ≡ 0 = omega arith in rw z (take-length (joined a g 0))
  front_stays e (suc m) h =
      by_bound (suc m) e
      (λ (l : e < suc m).
      ap (take (length (joined a g e))) (piece_more m)
      ∙ take-append-le (length (joined a g e)) (joined a g m) (g m) (grows e m (omega arith))
      ∙ front_stays e m (omega arith))
      (λ (l : suc m ≤ e). let z : e ≡ suc m = omega arith in rw z (take-length (joined a g (suc m))))

  -- and each piece behind those before it
  pub piece_stands : (e m : ℕ) → e < m → take (length (g e)) (drop (length (joined a g e)) (joined a g m)) ≡ g e
  piece_stands e zero h = absurd (omega arith)
  piece_stands e (suc m) h =
      by_bound m e
      (λ (l : e < m).
      ap (λ (s : List ℕ). take (length (g e)) (drop (length (joined a g e)) s)) (piece_more m)
      ∙ inside (joined a g m) (g m) (length (joined a g e)) (length (g e)) (omega (arith, piece_long e, grows (suc e) m l))
      ∙ piece_stands e m l)
      (λ (l : m ≤ e).
      let z : e ≡ m = omega arith in
      rw (z, piece_more m, drop-append_seam (joined a g m) (g m)) (take-length (g m)))

-- ---- the head

pub fixed_long : length fixed ≡ fixed_bytes
unfolding fixed
fixed_long = refl

pub fixed_table : tabulate fixed_bytes (λ k. get_or fixed k 0) ≡ fixed
unfolding fixed
fixed_table = tabulate-get_or 0 fixed

pub entry_long : (kind offset len : ℕ) → length (table_entry kind offset len) ≡ entry_bytes
unfolding table_entry
entry_long kind offset len =
    length-append (bytes_of kind_bytes kind) (bytes_of field_bytes offset ++ bytes_of field_bytes len)
    ∙ rw (length-append (bytes_of field_bytes offset) (bytes_of field_bytes len), bytes_long kind_bytes kind, bytes_long field_bytes offset, bytes_long field_bytes len)

module _ (n : ℕ) (kind len : ℕ → ℕ) where
  abbrev entry : ℕ → List ℕ
  entry e = table_entry (kind e) (start_of n len e) (len e)

  pub head_none : head_to n kind len 0 ≡ fixed ++ bytes_of count_bytes n
  unfolding head_to upto
  head_none = refl

  pub head_more : (e : ℕ) → head_to n kind len (suc e) ≡ head_to n kind len e ++ entry e
  unfolding head_to upto
  head_more e = refl

  pub head_long : (e : ℕ) → length (head_to n kind len e) ≡ head_bytes e
  head_long zero = ap length head_none ∙ length-append fixed (bytes_of count_bytes n) ∙ rw (fixed_long, bytes_long count_bytes n)
  head_long (suc e) =
      ap length (head_more e) ∙ length-append (head_to n kind len e) (entry e)
      ∙ rw (head_long e, entry_long (kind e) (start_of n len e) (len e)) (omega arith)

-- ---- the head read: of bytes s that begin with it

-- the middle of three pieces that stand at a
part_within : (a i k n : ℕ) (s p q r : List ℕ) → take n (drop a s) ≡ p ++ (q ++ r) → length p ≡ i → length q ≡ k → i + k ≤ n → take k (drop (a + i) s) ≡ q
part_within a i k n s p q r e pl ql h =
    ap (take k) (sym (drop-drop i a s))
    ∙ sym (part_of_front k i n (drop a s) h)
    ∙ ap (λ (t : List ℕ). take k (drop i t)) e
    ∙ ap (take k) (drop_at p (q ++ r) i pl)
    ∙ take_at q r k ql

module _ (n : ℕ) (kind len : ℕ → ℕ) (s : List ℕ) (b : take (head_bytes n) s ≡ head_of n kind len) where
  front_in : (e : ℕ) → e ≤ n → take (head_bytes e) s ≡ head_to n kind len e
  unfolding head_to
  front_in e h =
      sym (take-take (head_bytes e) (head_bytes n) s (omega arith))
      ∙ ap (take (head_bytes e)) b
      ∙ ap (λ (k : ℕ). take k (head_of n kind len)) (sym (head_long n kind len e))
      ∙ front_stays (fixed ++ bytes_of count_bytes n) (entry n kind len) e n h

  before_entries : take (head_bytes 0) s ≡ fixed ++ bytes_of count_bytes n
  before_entries = front_in 0 (omega arith) ∙ head_none n kind len

  pub fixed_in : take fixed_bytes s ≡ fixed
  fixed_in =
      sym (take-take fixed_bytes (head_bytes 0) s (omega arith)) ∙ ap (take fixed_bytes) before_entries
      ∙ take_at fixed (bytes_of count_bytes n) fixed_bytes fixed_long

  pub count_in_law : n ≤ most_entries → count_in s ≡ n
  count_in_law h =
      number_of_law count_bytes s fixed_bytes n (omega arith)
      (part_within 0 fixed_bytes count_bytes (head_bytes 0) s fixed (bytes_of count_bytes n) []
      (before_entries ∙ ap (λ (t : List ℕ). fixed ++ t) (sym (append-nil (bytes_of count_bytes n)))) fixed_long (bytes_long count_bytes n) (omega arith))

  entry_in : (e : ℕ) → e < n → take entry_bytes (drop (head_bytes e) s) ≡ entry n kind len e
  unfolding head_to
  entry_in e h =
      sym (part_of_front entry_bytes (head_bytes e) (head_bytes n) s (omega arith))
      ∙ ap (λ (t : List ℕ). take entry_bytes (drop (head_bytes e) t)) b
      ∙ ap (λ (k : ℕ). take k (drop (head_bytes e) (head_of n kind len))) (sym (entry_long (kind e) (start_of n len e) (len e)))
      ∙ ap (λ (k : ℕ). take (length (entry n kind len e)) (drop k (head_of n kind len))) (sym (head_long n kind len e))
      ∙ piece_stands (fixed ++ bytes_of count_bytes n) (entry n kind len) e n h

  module _ (e : ℕ) (h : e < n) where
    abbrev kind_part : List ℕ
    kind_part = bytes_of kind_bytes (kind e)

    abbrev offset_part : List ℕ
    offset_part = bytes_of field_bytes (start_of n len e)

    abbrev length_part : List ℕ
    length_part = bytes_of field_bytes (len e)

    parts : take entry_bytes (drop (head_bytes e) s) ≡ kind_part ++ (offset_part ++ length_part)
    unfolding table_entry
    parts = entry_in e h

    pub kind_in_law : kind e < 256 → kind_in s e ≡ kind e
    kind_in_law l =
        number_of_law kind_bytes s (head_bytes e) (kind e) l
        (ap (λ (a : ℕ). take kind_bytes (drop a s)) (sym (add-zero (head_bytes e)))
        ∙ part_within (head_bytes e) 0 kind_bytes entry_bytes s [] kind_part (offset_part ++ length_part) parts refl (bytes_long kind_bytes (kind e)) (omega arith))

    pub offset_in_law : start_of n len e ≤ field_most → offset_in s e ≡ start_of n len e
    offset_in_law l =
        number_of_law field_bytes s (head_bytes e + 1) (start_of n len e) (omega arith)
        (part_within (head_bytes e) 1 field_bytes entry_bytes s kind_part offset_part length_part parts (bytes_long kind_bytes (kind e))
        (bytes_long field_bytes (start_of n len e)) (omega arith))

    pub length_in_law : len e ≤ field_most → length_in s e ≡ len e
    length_in_law l =
        let split = append_assoc kind_part offset_part (length_part ++ []) in
        let long : length (kind_part ++ offset_part) ≡ 5 =
        rw (length-append kind_part offset_part, bytes_long kind_bytes (kind e), bytes_long field_bytes (start_of n len e)) in
        number_of_law field_bytes s (head_bytes e + 5) (len e) (omega arith)
        (part_within (head_bytes e) 5 field_bytes entry_bytes s (kind_part ++ offset_part) length_part []
        (parts ∙ ap (λ (t : List ℕ). kind_part ++ (offset_part ++ t)) (sym (append-nil length_part)) ∙ sym split) long (bytes_long field_bytes (len e)) (omega arith))
