-- Pieces put into a buffer one behind the other are one piece: so the code writes a head. Assumes nothing.
use Prim.Native.Nat.{ℕ, ◌+◌, ◌-◌, ◌*◌, ◌/◌, ◌%◌, ◌^◌, ◌≤◌, ◌<◌}
use mathlib.Core.Path.{◌≡◌, refl, sym, ap, ◌∙◌}
use mathlib.Core.List.{List, ◌++◌, append_assoc}
use native.Mathlib.Numerals.{add-one}
use native.Mathlib.Omega.{arith}
use lib.ListN.{length, get_or, set, take, drop, length-append, length-take, length-drop, length-set}
use lib.Seq.{paste, paste-zero, paste-suc, take_all, take-length, take_at, drop_at, drop-drop}
use Rattle.prelude.proofs.Lists.{Filled, get_d_tabulate}
use Rattle.bits.specs.Bits.{num, digit}
use Rattle.archive_spec.specs.File.{fixed_bytes, count_bytes, kind_bytes, field_bytes, head_bytes, bytes_of, fixed, start_of, table_entry, head_to, head_of}
use Rattle.archive_spec.specs.Write.{nth}
use Rattle.archive_spec.specs.Steps.{placed, Inside, Head, HeadUpTo}
use Rattle.archive_spec.proofs.Starts.{start_none, start_more, outside_at_law, inside_of}
use Rattle.archive_spec.proofs.Fields.{bytes_long, byte_of_number}
use Rattle.archive_spec.proofs.Heads.{fixed_long, fixed_table, entry_long, head_none, head_more}

-- ---- two pieces

module _ (d : List ℕ) (at : ℕ) (p : List ℕ) (h : at + length p ≤ length d) where
  front_long : length (take at d ++ p) ≡ at + length p
  front_long = rw (length-append (take at d) p, length-take at d) (omega arith)

  two_parts : placed d at p ≡ (take at d ++ p) ++ drop (at + length p) d
  unfolding placed
  two_parts = sym (append_assoc (take at d) p (drop (at + length p) d))

  pub placed_long : length (placed d at p) ≡ length d
  placed_long = ap length two_parts ∙ rw (length-append (take at d ++ p) (drop (at + length p) d), front_long, length-drop (at + length p) d) (omega arith)

  pub placed_front : take (at + length p) (placed d at p) ≡ take at d ++ p
  placed_front = ap (take (at + length p)) two_parts ∙ take_at (take at d ++ p) (drop (at + length p) d) (at + length p) front_long

  pub placed_more : (b : ℕ) (q : List ℕ) → b ≡ at + length p → b + length q ≤ length d → placed (placed d at p) b q ≡ placed d at (p ++ q)
  unfolding placed
  placed_more b q e l =
      let front : take b (placed d at p) ≡ take at d ++ p = ap (take b) two_parts ∙ take_at (take at d ++ p) (drop (at + length p) d) b (front_long ∙ sym e) in
      let far : at + length p + length q ≡ at + length (p ++ q) = rw (length-append p q) (omega arith) in
      let back : drop (b + length q) (placed d at p) ≡ drop (at + length (p ++ q)) d =
      sym (drop-drop (length q) b (placed d at p))
      ∙ ap (drop (length q)) (ap (drop b) two_parts ∙ drop_at (take at d ++ p) (drop (at + length p) d) b (front_long ∙ sym e))
      ∙ drop-drop (length q) (at + length p) d
      ∙ ap (λ (i : ℕ). drop i d) far in
      rw (front, back, append_assoc (take at d) p, append_assoc p q)

-- ---- a loop that puts a piece element by element: j are in

pub record Putting (d : List ℕ) (at : ℕ) (s : List ℕ) (j : ℕ) (out : List ℕ) : Type 0 where
  pub within : j ≤ length s
  pub len : length out ≡ length d
  pub is : out ≡ paste d at s j

pub putting_none : {d : List ℕ} {at : ℕ} {s : List ℕ} → Putting d at s 0 d
putting_none {d} {at} {s} = record { within = omega arith; len = refl; is = paste-zero d at s }

pub putting_more : {d : List ℕ} {at : ℕ} {s : List ℕ} {j : ℕ} {out : List ℕ} {v : ℕ} → Putting d at s j out → at + length s ≤ length d → j < length s
    → v ≡ get_or s j 0 → Putting d at s (j + 1) (set out (at + j) v)
putting_more {d} {at} {s} {j} {out} {v} e h l q =
    record { within = omega arith; len = length-set out (at + j) v ∙ e.len; is = rw (e.is, q, add-one) (paste-suc d at s j 0 (omega arith) l) }

pub putting_all : {d : List ℕ} {at : ℕ} {s : List ℕ} {j : ℕ} {out : List ℕ} → Putting d at s j out → length s ≤ j → out ≡ placed d at s
unfolding placed
putting_all {d} {at} {s} {j} e l =
    let q : j ≡ length s = omega (arith, e.within) in
    rw (e.is, q, take-length s) (append_assoc (take at d) s (drop (at + length s) d))

-- the bytes of a number
pub byte_in : (k x j : ℕ) → x < 2 ^ (8 * k) → j < k → x / 2 ^ (8 * (k - 1 - j)) % 256 ≡ get_or (bytes_of k x) j 0
byte_in k x j h l = byte_of_number k x j h l ∙ sym (get_d_tabulate 0 k (λ i. num 8 (digit (8 * k) x) (8 * i)) j l)

-- the fixed bytes, filled from the front
pub fixed_placed : (d : List ℕ) {i : ℕ} {out : List ℕ} → Filled i (λ k. get_or fixed k 0) d out → i ≡ fixed_bytes → out ≡ placed d 0 fixed
unfolding placed
fixed_placed d e h = rw (e.is, h, fixed_table, fixed_long)

-- ---- an entry, and the head

pub entry_placed : (kind from len at : ℕ) (d : List ℕ) {x y z : List ℕ} → at + 9 ≤ length d → x ≡ placed d at (bytes_of kind_bytes kind)
    → y ≡ placed x (at + 1) (bytes_of field_bytes from) → z ≡ placed y (at + 5) (bytes_of field_bytes len) → z ≡ placed d at (table_entry kind from len)
unfolding table_entry
entry_placed kind from len at d {x} {y} {z} h p q r =
    let a = bytes_of kind_bytes kind in
    let b = bytes_of field_bytes from in
    let c = bytes_of field_bytes len in
    let al = bytes_long kind_bytes kind in
    let bl = bytes_long field_bytes from in
    let cl = bytes_long field_bytes len in
    let abl : length (a ++ b) ≡ 5 = rw (length-append a b, al, bl) in
    let two : y ≡ placed d at (a ++ b) = q ∙ rw p (placed_more d at a (omega arith) (at + 1) b (omega arith) (omega arith)) in
    r ∙ rw two (placed_more d at (a ++ b) (omega arith) (at + 5) c (omega arith) (omega arith)) ∙ ap (placed d at) (append_assoc a b c)

-- another buffer of the same length
pub same_head : {n : ℕ} {kinds lengths d x : List ℕ} → Head n kinds lengths d → length x ≡ head_bytes n → Head n kinds lengths x
same_head h l = record { few = h.few; kinds_long = h.kinds_long; lengths_long = h.lengths_long; head_long = l; inside = h.inside }

pub head_begun : {n : ℕ} {kinds lengths d : List ℕ} {x y : List ℕ} → Head n kinds lengths d → x ≡ placed d 0 fixed
    → y ≡ placed x fixed_bytes (bytes_of count_bytes n) → HeadUpTo n kinds lengths 0 y (head_bytes n)
head_begun {n} {kinds} {lengths} {d} {x} {y} h p q =
    let front = fixed ++ bytes_of count_bytes n in
    let l : length front ≡ head_bytes 0 = rw (length-append fixed (bytes_of count_bytes n), fixed_long, bytes_long count_bytes n) in
    let z : 0 + length front ≡ head_bytes 0 = omega arith in
    let fits : 0 + length front ≤ length d = omega (arith, h.head_long) in
    let one : y ≡ placed d 0 front =
    q
    ∙ rw p
    (placed_more d 0 fixed (omega (arith, fixed_long, h.head_long)) fixed_bytes (bytes_of count_bytes n) (omega (arith, fixed_long))
    (omega (arith, h.head_long, bytes_long count_bytes n))) in
    record {
      within = omega arith;
      long = rw one (placed_long d 0 front fits ∙ h.head_long);
      is = ap (take (head_bytes 0)) one ∙ ap (λ (k : ℕ). take k (placed d 0 front)) (sym z) ∙ placed_front d 0 front fits ∙ sym (head_none n (nth kinds) (nth lengths));
      begins = sym (start_none n (nth lengths));
    }

module _ {n : ℕ} {kinds lengths d : List ℕ} (h : Head n kinds lengths d) {e : ℕ} {head : List ℕ} {from : ℕ} (u : HeadUpTo n kinds lengths e head from) where
  pub entry_inside : e < n → Inside (nth kinds e) from (nth lengths e)
  entry_inside l = inside_of (nth kinds e) from (nth lengths e) refl (outside_at_law n (nth kinds) (nth lengths) e from u.begins ∙ h.inside e l)

  pub head_grown : {y : List ℕ} {at : ℕ} → e < n → at ≡ head_bytes e → y ≡ placed head at (table_entry (nth kinds e) from (nth lengths e))
      → HeadUpTo n kinds lengths (e + 1) y (from + nth lengths e)
  head_grown {y} {at} l g q =
      let entry = table_entry (nth kinds e) from (nth lengths e) in
      let el = entry_long (nth kinds e) from (nth lengths e) in
      let fits : at + length entry ≤ length head = omega (arith, u.long) in
      let far : head_bytes (e + 1) ≡ at + length entry = omega arith in
      let front : take at head ++ entry ≡ head_to n (nth kinds) (nth lengths) e ++ table_entry (nth kinds e) (start_of n (nth lengths) e) (nth lengths e) =
      rw (g, u.is, u.begins) in
      record {
        within = omega arith;
        long = rw q (placed_long head at entry fits ∙ u.long);
        is =
            ap (take (head_bytes (e + 1))) q ∙ ap (λ (k : ℕ). take k (placed head at entry)) far ∙ placed_front head at entry fits ∙ front
            ∙ sym (head_more n (nth kinds) (nth lengths) e)
            ∙ ap (head_to n (nth kinds) (nth lengths)) (sym (add-one e));
        begins = rw (u.begins, add-one) (sym (start_more n (nth lengths) e));
      }

  pub head_done : n ≤ e → head ≡ head_of n (nth kinds) (nth lengths)
  head_done l =
      let z : e ≡ n = omega (arith, u.within) in
      let all : length head ≤ head_bytes e = omega (arith, u.long) in
      sym (take_all (head_bytes e) head all) ∙ u.is ∙ ap (head_to n (nth kinds) (nth lengths)) z
