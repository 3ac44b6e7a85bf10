-- Where bodies begin, and a pass over entries that knows where the next one's does. Assumes nothing.
use Prim.Native.Nat.{ℕ, zero, suc, ◌+◌, ◌≤◌, ◌<◌}
use mathlib.Core.Bool.{Bool, true, false, not, ◌&&◌, ◌||◌}
use mathlib.Core.Path.{◌≡◌, refl, sym, ap, ◌∙◌}
use mathlib.Core.List.{List}
use native.Mathlib.Numerals.{add-one}
use native.Mathlib.Omega.{arith}
use borrow.Author.Tests.{lt-ltb, le-ltb, eq-eqb, ne_eqb, ltb-false, eqb-true, not-false}
use lib.Dec.{ltb, eqb}
use Rattle.prelude.specs.Loops.{upto, first}
use Rattle.prelude.proofs.Common.{or_left, or_right}
use Rattle.prelude.proofs.LoopLaws.{PassedOver, passed_none, found_here, found_more, first_end}
use Rattle.archive_spec.specs.File.{kind_bytes, field_bytes, head_bytes, field_most, start_of, kind_outside, kind_in, offset_in, length_in}
use Rattle.archive_spec.specs.Write.{nth, entry_outside}
use Rattle.archive_spec.specs.Read.{cut_off, bad_kind, off_rule}
use Rattle.archive_spec.specs.Steps.{Number, Inside, outside_at, off_rule_at}
use Rattle.archive_spec.proofs.Fields.{number_lt}

-- ---- where bodies begin

pub start_none : (n : ℕ) (len : ℕ → ℕ) → start_of n len 0 ≡ head_bytes n
unfolding start_of upto
start_none n len = refl

pub start_more : (n : ℕ) (len : ℕ → ℕ) (e : ℕ) → start_of n len (suc e) ≡ start_of n len e + len e
unfolding start_of upto
start_more n len e = refl

pub start_ext : (n : ℕ) (f g : ℕ → ℕ) (e : ℕ) → ((k : ℕ) → k < e → f k ≡ g k) → start_of n f e ≡ start_of n g e
unfolding start_of upto
start_ext n f g zero h = refl
start_ext n f g (suc e) h = rw (start_ext n f g e (λ k l. h k (omega arith)), h e (omega arith))

-- behind the head
pub start_behind : (n : ℕ) (len : ℕ → ℕ) (e : ℕ) → head_bytes n ≤ start_of n len e
unfolding start_of upto
start_behind n len zero = omega arith
start_behind n len (suc e) = omega (arith, start_behind n len e)

-- ---- a search for an entry, as far as entry e, whose body begins at `from`

pub record Walked (p : ℕ → Bool) (m n : ℕ) (len : ℕ → ℕ) (e from : ℕ) : Type 0 where
  pub passed : PassedOver e p m
  pub begins : from ≡ start_of n len e

pub walked_none : {p : ℕ → Bool} {m n : ℕ} {len : ℕ → ℕ} {from : ℕ} → from ≡ head_bytes n → Walked p m n len 0 from
walked_none {p} {m} {n} {len} e = record { passed = passed_none; begins = e ∙ sym (start_none n len) }

-- `o` is what the test of entry e came to
module _ {p : ℕ → Bool} {m n : ℕ} {len : ℕ → ℕ} {e from : ℕ} (w : Walked p m n len e from) (l : e < m) {o : Bool} (h : o ≡ p e) where
  walked_here : o ≡ true → e ≡ first p m
  walked_here q = found_here w.passed l h q

  walked_more : (v : ℕ) → o ≡ false → v ≡ len e → Walked p m n len (e + 1) (from + v)
  walked_more v q i =
      record { passed = found_more w.passed l h q; begins = rw (w.begins, i, add-one) (sym (start_more n len e)) }

pub walked_end : {p : ℕ → Bool} {m n : ℕ} {len : ℕ → ℕ} {e from : ℕ} → Walked p m n len e from → m ≤ e → e ≡ first p m
walked_end w l = first_end w.passed l

-- ---- the test of an entry, by where its body begins

pub outside_at_law : (n : ℕ) (kind len : ℕ → ℕ) (e from : ℕ) → from ≡ start_of n len e → outside_at (kind e) from (len e) ≡ entry_outside n kind len e
unfolding outside_at entry_outside
outside_at_law n kind len e from h = rw h

module _ {m n : ℕ} (kinds lengths : List ℕ) {e from : ℕ} (w : Walked (entry_outside n (nth kinds) (nth lengths)) m n (nth lengths) e from) (l : e < m) where
  pub outside_here : {o : Bool} → o ≡ outside_at (nth kinds e) from (nth lengths e) → o ≡ true → e ≡ first (entry_outside n (nth kinds) (nth lengths)) m
  outside_here h q = walked_here w l (h ∙ outside_at_law n (nth kinds) (nth lengths) e from w.begins) q

  pub outside_more : {o : Bool} → o ≡ outside_at (nth kinds e) from (nth lengths e) → o ≡ false
      → Walked (entry_outside n (nth kinds) (nth lengths)) m n (nth lengths) (e + 1) (from + nth lengths e)
  outside_more h q = walked_more w l (h ∙ outside_at_law n (nth kinds) (nth lengths) e from w.begins) (nth lengths e) q refl

pub inside_of : (kind from len : ℕ) {b : Bool} → b ≡ outside_at kind from len → b ≡ false → Inside kind from len
unfolding outside_at
inside_of kind from len p q =
    let h = sym p ∙ q in
    let t = or_right (kind_outside kind) (ltb field_most len || ltb field_most from) h in
    record {
      kind_inside = or_left (kind_outside kind) (ltb field_most len || ltb field_most from) h;
      from_inside = ltb-false field_most from (or_right (ltb field_most len) (ltb field_most from) t);
      len_inside = ltb-false field_most len (or_left (ltb field_most len) (ltb field_most from) t);
    }

-- a kind is a byte
pub kind_small : {kind : ℕ} → kind_outside kind ≡ false → kind < 256
kind_small {kind} h = omega (arith, ltb-false 3 kind (or_right (ltb kind 1) (ltb 3 kind) h))

last_end : (n : ℕ) (len : ℕ → ℕ) (e size from : ℕ) (b : Bool) → eqb (suc e) n ≡ b → from ≡ start_of n len e
    → b && not (eqb (from + len e) size) ≡ b && not (eqb (start_of n len n) size)
last_end n len e size from false q h = refl
last_end n len e size from true q h =
    let k : n ≡ suc e = sym (eqb-true (suc e) n q) in
    let s : start_of n len n ≡ from + len e = ap (start_of n len) k ∙ start_more n len e ∙ ap (λ (x : ℕ). x + len e) (sym h) in
    rw s

off_rule_at_law : (size : ℕ) (s : List ℕ) (n e from : ℕ) → from ≡ start_of n (length_in s) e → off_rule_at size s n e from (length_in s e) ≡ off_rule size s n e
unfolding off_rule_at off_rule
off_rule_at_law size s n e from h = rw (last_end n (length_in s) e size from (eqb (suc e) n) refl h, h)

-- an entry that is where the rule puts it begins where a field of four bytes says
pub rule_small : (size : ℕ) (s : List ℕ) (n e from len : ℕ) {b : Bool} → b ≡ off_rule_at size s n e from len → b ≡ false → from ≤ field_most
unfolding off_rule_at
rule_small size s n e from len p q =
    let last = eqb (suc e) n && not (eqb (from + len) size) in
    let h = or_left _ last (or_right (cut_off size e) (not (eqb (offset_in s e) from) || last) (sym p ∙ q)) in
    let k : offset_in s e ≡ from = eqb-true (offset_in s e) from (not-false (eqb (offset_in s e) from) h) in
    omega (arith, number_lt field_bytes s (head_bytes e + 1))

module _ (size : ℕ) (s : List ℕ) (n : ℕ) {e from v x : ℕ} (w : Walked (off_rule size s n) n n (length_in s) e from) (l : e < n) (y : x ≡ head_bytes e)
    (i : Number field_bytes s (x + 5) v) {o : Bool} (h : o ≡ off_rule_at size s n e from v) where
  length_is : v ≡ length_in s e
  length_is = i.is ∙ rw y

  test_is : o ≡ off_rule size s n e
  test_is = h ∙ rw length_is (off_rule_at_law size s n e from w.begins)

  pub off_here : o ≡ true → e ≡ first (off_rule size s n) n
  off_here q = walked_here w l test_is q

  pub off_more : o ≡ false → Walked (off_rule size s n) n n (length_in s) (e + 1) (from + v)
  off_more q = walked_more w l test_is v q length_is

-- ---- the tests of an entry one by one; x is where the next entry begins, y this one, v is what stands there

module _ (size : ℕ) (s : List ℕ) (e : ℕ) {x : ℕ} (p : x ≡ head_bytes (e + 1)) where
  cut_at : head_bytes (suc e) ≡ x
  cut_at = ap head_bytes (sym (add-one e)) ∙ sym p

  pub kind_cut : size < x → false ≡ bad_kind size s e
  unfolding bad_kind
  kind_cut l = rw (cut_at, lt-ltb size x l)

  pub kind_whole : {y v : ℕ} {o : Bool} → x ≤ size → y ≡ head_bytes e → Number kind_bytes s y v → o ≡ kind_outside v → o ≡ bad_kind size s e
  unfolding bad_kind
  kind_whole {y} {v} l q i h =
      let u : v ≡ kind_in s e = i.is ∙ rw q in
      rw (cut_at, le-ltb size x l, ← u) h

  module _ (n from len : ℕ) where
    pub rule_cut : size < x → true ≡ off_rule_at size s n e from len
    unfolding off_rule_at
    rule_cut l = rw (cut_at, lt-ltb size x l)

    module _ {y v : ℕ} (l : x ≤ size) (q : y ≡ head_bytes e) (i : Number field_bytes s (y + 1) v) where
      offset_is : v ≡ offset_in s e
      offset_is = i.is ∙ rw q

      pub rule_elsewhere : (v ≡ from → ⊥) → true ≡ off_rule_at size s n e from len
      unfolding off_rule_at
      rule_elsewhere h = rw (cut_at, le-ltb size x l, ← offset_is, ne_eqb v from h)

      pub rule_midst : v ≡ from → (e + 1 ≡ n → ⊥) → false ≡ off_rule_at size s n e from len
      unfolding off_rule_at
      rule_midst h g = rw (cut_at, le-ltb size x l, ← offset_is, eq-eqb v from h, ne_eqb (suc e) n (λ (z : suc e ≡ n). g (add-one e ∙ z)))

      pub rule_last : {z : ℕ} → v ≡ from → e + 1 ≡ n → z ≡ from + len → not (eqb z size) ≡ off_rule_at size s n e from len
      unfolding off_rule_at
      rule_last h g k = rw (cut_at, le-ltb size x l, ← offset_is, eq-eqb v from h, eq-eqb (suc e) n (sym (add-one e) ∙ g), k)
