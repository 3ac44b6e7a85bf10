-- The laws of `tabulate`, and of a loop that fills a buffer. Assumes nothing.
use Prim.Native.Nat.{ℕ, zero, suc, ◌+◌, ◌≤◌, ◌<◌}
use mathlib.Core.Path.{◌≡◌, refl, sym, ap, ◌∙◌}
use mathlib.Core.List.{List, [], ◌∷◌, ◌++◌, append-nil, append_assoc}
use native.Mathlib.Nat.{not-suc-le-zero, le_of_suc-le-suc, zero-add, suc-add, add-zero}
use native.Mathlib.Numerals.{add-one}
use native.Mathlib.Omega.{arith}
use lib.ListN.{length, length-set, get_or, set, take, drop, length-take, length-drop, drop_of_length-le, get_or-eq_default, get_or-append}
use lib.Seq.{ext_get_or, take_at, drop_at, drop-drop, get_or-append-add, get_or-drop}
use borrow.Rule.Slice.PartMut.{put_mid, same_len_mid}
use Rattle.prelude.specs.Lists.{tabulate}

-- ---- tabulate

pub length-tabulate : {A : Type 0} (n : ℕ) (f : ℕ → A) → length (tabulate n f) ≡ n
unfolding tabulate
length-tabulate zero f = refl
length-tabulate (suc n) f = ap suc (length-tabulate n (λ k. f (suc k)))

pub get_d_tabulate : {A : Type 0} (d : A) (n : ℕ) (f : ℕ → A) (i : ℕ) → i < n → get_or (tabulate n f) i d ≡ f i
unfolding tabulate
get_d_tabulate d zero f i h = absurd (not-suc-le-zero h)
get_d_tabulate d (suc n) f zero h = refl
get_d_tabulate d (suc n) f (suc i) h = get_d_tabulate d n (λ k. f (suc k)) i (le_of_suc-le-suc h)

-- past its end a table has nothing but the default
pub get_d_past : {A : Type 0} (d : A) (n : ℕ) (f : ℕ → A) (i : ℕ) → n ≤ i → get_or (tabulate n f) i d ≡ d
get_d_past d n f i h = get_or-eq_default (tabulate n f) d (rw (length-tabulate n f) h)

-- two functions that agree below n tabulate alike
pub tabulate_ext : {A : Type 0} (n : ℕ) (f g : ℕ → A) → ((i : ℕ) → i < n → f i ≡ g i) → tabulate n f ≡ tabulate n g
unfolding tabulate
tabulate_ext zero f g h = refl
tabulate_ext {A} (suc n) f g h =
    rw (h 0 (omega arith)) (ap (λ (l : List A). g 0 ∷ l) (tabulate_ext n (λ k. f (suc k)) (λ k. g (suc k)) (λ i l. h (suc i) (omega arith))))

-- a list is the table of its elements
pub tabulate-get_or : {A : Type 0} (d : A) (s : List A) → tabulate (length s) (λ i. get_or s i d) ≡ s
unfolding tabulate
tabulate-get_or d [] = refl
tabulate-get_or {A} d (x ∷ s) = ap (λ (l : List A). x ∷ l) (tabulate-get_or d s)

-- a list is the table of a function where it has its length and its elements
pub is_table : {A : Type 0} (d : A) (n : ℕ) (f : ℕ → A) (s : List A) → length s ≡ n → ((i : ℕ) → i < n → get_or s i d ≡ f i) → s ≡ tabulate n f
is_table d n f s p h =
    ext_get_or d s (tabulate n f) (p ∙ sym (length-tabulate n f))
    (λ i l. let m : i < n = rw p at l in h i m ∙ sym (get_d_tabulate d n f i m))

-- a table in two parts
pub tabulate_add : {A : Type 0} (m n : ℕ) (f : ℕ → A) → tabulate (m + n) f ≡ tabulate m f ++ tabulate n (λ j. f (m + j))
unfolding tabulate
tabulate_add zero n f = simp zero-add
tabulate_add {A} (suc m) n f = simp suc-add (ap (λ (l : List A). f 0 ∷ l) (tabulate_add m n (λ k. f (suc k))))

-- ---- a loop that fills a buffer from the front

-- the buffer `out` after i turns of the loop, where d is what it held before and f i is to stand at i.
-- It is a record, so that its arguments are found wherever it stands, and so that `omega` reads its two facts on lengths by itself
pub record Filled {A : Type 0} (i : ℕ) (f : ℕ → A) (d out : List A) : Type 0 where
  pub within : i ≤ length d
  pub len : length out ≡ length d
  pub is : out ≡ tabulate i f ++ drop i d

filled_suc : {A : Type 0} (i : ℕ) (f : ℕ → A) (d : List A) → i < length d → set (tabulate i f ++ drop i d) i (f i) ≡ tabulate (suc i) f ++ drop (suc i) d
unfolding tabulate
filled_suc i f [] h = absurd (not-suc-le-zero h)
filled_suc zero f (x ∷ d) h = refl
filled_suc {A} (suc i) f (x ∷ d) h = ap (λ (l : List A). f 0 ∷ l) (filled_suc i (λ k. f (suc k)) d (le_of_suc-le-suc h))

-- where the loop begins
pub filled_none : {A : Type 0} {f : ℕ → A} {d : List A} → Filled 0 f d d
unfolding tabulate
filled_none = record { within = omega arith; len = refl; is = refl }

-- a turn: v, which is f i, is stored at i
pub filled_more : {A : Type 0} {i : ℕ} {v : A} {f : ℕ → A} {d out : List A} → Filled i f d out → i < length d → v ≡ f i → Filled (i + 1) f d (set out i v)
filled_more {A} {i} {v} {f} {d} {out} e h p =
    record { within = omega arith; len = length-set out i v ∙ e.len; is = rw (e.is, p, add-one) (filled_suc i f d h) }

-- the same, where the code counts otherwise
pub filled_to : {A : Type 0} {i : ℕ} {f : ℕ → A} {d out : List A} (j : ℕ) → Filled i f d out → i ≡ j → Filled j f d out
filled_to j e p = rw p at e

-- where the loop ends, with n for the buffer's length as the contract says it
pub filled_all : {A : Type 0} {i : ℕ} {f : ℕ → A} {d out : List A} (n : ℕ) → Filled i f d out → length d ≤ i → length d ≡ n → out ≡ tabulate n f
filled_all {A} {i} {f} {d} {out} n e h p =
    let q : i ≡ n = omega (arith, e.within) in
    rw (e.is, drop_of_length-le d h, q) (append-nil (tabulate n f))

-- a turn that fills a whole part: a callee was lent `&mut out[a..e]` and left ys there
pub filled_block : {A : Type 0} {a : ℕ} {f : ℕ → A} {d out : List A} (k e : ℕ) {ys : List A} → Filled a f d out → e ≡ a + k → e ≤ length d
    → ys ≡ tabulate k (λ j. f (a + j)) → Filled e f d (put_mid a k out ys)
filled_block {A} {a} {f} {d} {out} k e {ys} i p h q =
    let front : take a out ≡ tabulate a f = rw i.is (take_at (tabulate a f) (drop a d) a (length-tabulate a f)) in
    let back : drop a out ≡ drop a d = rw i.is (drop_at (tabulate a f) (drop a d) a (length-tabulate a f)) in
    let len : length (put_mid a k out ys) ≡ length out = same_len_mid a k out ys
    (rw (back, q) (simp (length-tabulate, length-take, length-drop) (omega arith))) in
    record {
      within = h;
      len = len ∙ i.len;
      is = rw (front, back, q, p, drop-drop k a d, tabulate_add a k f) (sym (append_assoc (tabulate a f) (tabulate k (λ j. f (a + j))) (drop (a + k) d)));
    }

-- a buffer changed in place: what is not filled yet is as it was
pub filled_here : {A : Type 0} (x : A) {i : ℕ} {f : ℕ → A} {d out : List A} → Filled i f d out → get_or out i x ≡ get_or d i x
filled_here {A} x {i} {f} {d} {out} e = rw e.is (at_length (tabulate i f) (length-tabulate i f))
  where
    at_length : (t : List A) → length t ≡ i → get_or (t ++ drop i d) i x ≡ get_or d i x
    at_length t q =
        ap (λ (k : ℕ). get_or (t ++ drop i d) k x) (sym (add-zero i) ∙ ap (λ (k : ℕ). k + 0) (sym q))
        ∙ get_or-append-add t (drop i d) 0 x
        ∙ get_or-drop i d 0 x
        ∙ ap (λ (k : ℕ). get_or d k x) (add-zero i)

-- what is filled reads as it was filled: a table that a function makes for itself
pub filled_at : {A : Type 0} (x : A) {i j : ℕ} {f : ℕ → A} {d out : List A} → Filled i f d out → j < i → get_or out j x ≡ f j
filled_at {A} x {i} {j} {f} {d} {out} e l =
    rw e.is (get_or-append (tabulate i f) (drop i d) x j (rw length-tabulate l) ∙ get_d_tabulate x i f j l)

-- a part that lies in the list has its length
pub part_long : (a k : ℕ) (s : List ℕ) → a + k ≤ length s → length (take k (drop a s)) ≡ k
part_long a k s h = simp (length-take, length-drop) (omega arith)
