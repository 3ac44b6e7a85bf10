-- A search that goes on to the end, and the pass over the words: one place more. Assumes nothing.
use Prim.Native.Nat.{ℕ, zero, suc, ◌+◌, ◌≤◌, ◌<◌}
use Rattle.std.specs.Bool.{then_some}
use Rattle.std.specs.Option.{option_or}
use Rattle.std.specs.Prelude.{Option, Some, None}
use mathlib.Core.Bool.{Bool, true, false, cond, not, ◌&&◌}
use mathlib.Core.Path.{◌≡◌, refl, sym, ap, ◌∙◌}
use mathlib.Core.List.{List, [], ◌∷◌}
use native.Mathlib.Nat.{add-zero}
use native.Mathlib.Omega.{arith}
use borrow.Author.Tests.{lt-ltb, le-ltb, eq-eqb, eqb-true}
use mir.Val.{bool_byte}
use lib.Dec.{eqb}
use lib.ListN.{length, get_or, replicate}
use lib.Pointwise.{pointwise}
use Rattle.prelude.specs.Loops.{first, count}
use Rattle.prelude.proofs.Common.{by_bound, and_left, and_right}
use Rattle.prelude.proofs.LoopLaws.{First, first_holds, first_is, first_none}
use Rattle.prelude.proofs.Counting.{count_more, count_le}
use Rattle.answer.specs.Steps.{first_found}
use Rattle.hamming.specs.declared.Repaired.{Repaired}
use Rattle.hamming.specs.Code.{checks_of}
use Rattle.hamming.specs.Repair.{repair_of, found_number}
use Rattle.hamming.proofs.Repairs.{none_kept, found_checks}
use Rattle.line.specs.Slots.{holds}
use Rattle.line_order.specs.Order.{word_in}
use Rattle.read_spec.specs.Read.{repaired, all_zero, is_beyond, is_filled, is_seen}
use Rattle.read_spec.specs.Steps.{sought_of, words_to}
use Rattle.hamming.specs.Steps.{found_of}
use Rattle.read_spec.specs.declared.WordTally.{WordTally}

-- ---- a search

found_some : (p : ℕ → Bool) (k : ℕ) → first p k < k → first_found p k ≡ Some (first p k)
unfolding first_found
found_some p k h = rw (lt-ltb (first p k) k h)

found_none : (p : ℕ → Bool) (k : ℕ) → k ≤ first p k → first_found p k ≡ None
unfolding first_found
found_none p k h = rw (le-ltb (first p k) k h)

-- place k is taken in as `then_some` and `or` do
pub sought_by : (x : Option ℕ) (k : ℕ) {b here : Bool} {y : Option ℕ} → y ≡ then_some b k → b ≡ here → option_or x y ≡ sought_of x k here
sought_by x k {b} {here} {y} e h = ap (option_or x) e ∙ ap (λ (t : Bool). option_or x (then_some t k)) h ∙ by x here
  where
    by : (x : Option ℕ) (t : Bool) → option_or x (then_some t k) ≡ sought_of x k t
    by (Some p) t = refl
    by None true = refl
    by None false = refl

-- a place that is not picked changes nothing
pub sought_same : (x : Option ℕ) (k : ℕ) → sought_of x k false ≡ x
sought_same (Some p) k = refl
sought_same None k = refl

-- the first of k places, and place k taken in: the first of one place more
pub first_more : (p : ℕ → Bool) (k : ℕ) → sought_of (first_found p k) k (p k) ≡ first_found p (k + 1)
first_more p k = by_bound k (first p k) early late
  where
    known : First p k (first p k)
    known = first_holds p k

    early : first p k < k → sought_of (first_found p k) k (p k) ≡ first_found p (k + 1)
    early l =
        let e : first p (k + 1) ≡ first p k = first_is p (first p k) (k + 1) known.none (omega arith) (known.here l) in
        ap (λ (x : Option ℕ). sought_of x k (p k)) (found_some p k l)
        ∙ sym (found_some p (k + 1) (omega (arith, e, l)) ∙ ap Some e)

    before : k ≤ first p k → (i : ℕ) → i < k → p i ≡ false
    before l i h = known.none i (omega arith)

    all : k ≤ first p k → p k ≡ false → (i : ℕ) → i < k + 1 → p i ≡ false
    all l e i h = by_bound k i (before l i) (λ m. let q : i ≡ k = omega arith in rw q e)

    by : k ≤ first p k → (b : Bool) → p k ≡ b → cond b (Some k) None ≡ first_found p (k + 1)
    by l true e =
        let q : first p (k + 1) ≡ k = first_is p k (k + 1) (before l) (omega arith) e in
        sym (found_some p (k + 1) (omega (arith, q)) ∙ ap Some q)
    by l false e =
        let q : first p (k + 1) ≡ k + 1 = first_none p (k + 1) (all l e) in
        sym (found_none p (k + 1) (omega (arith, q)))

    late : k ≤ first p k → sought_of (first_found p k) k (p k) ≡ first_found p (k + 1)
    late l = ap (λ (x : Option ℕ). sought_of x k (p k)) (found_none p k l) ∙ by l (p k) refl

-- ---- a word

-- a Bool as a number to add
pub byte_of_bool : (b : Bool) → bool_byte b ≡ cond b 1 0
byte_of_bool true = refl
byte_of_bool false = refl

pub byte_small : (b : Bool) {x : ℕ} → x ≡ bool_byte b → x ≤ 1
byte_small b {x} e = rw e (small b)
  where
    small : (t : Bool) → bool_byte t ≤ 1
    small true = omega arith
    small false = omega arith

sought_more : (b : Bool) (c : ℕ) → c + cond b 1 0 ≡ cond b (suc c) c
sought_more true c = omega arith
sought_more false c = omega arith

-- the three tests of a repair that the code has made
pub beyond_is : (cap : List ℕ) (w : ℕ) (r : Repaired) (k : ℕ) → r ≡ repair_of (word_in cap w) → k ≡ found_number r.found → eqb k 4 ≡ is_beyond cap w
unfolding is_beyond
beyond_is cap w r k e h = ap (λ (x : ℕ). eqb x 4) h ∙ ap (λ (x : Repaired). eqb (found_number x.found) 4) e

pub filled_is : (N : ℕ) (cap : List ℕ) (w : ℕ) (r : Repaired) → r ≡ repair_of (word_in cap w) → not (holds N w) && not (all_zero r.word) ≡ is_filled N cap w
unfolding is_filled repaired
filled_is N cap w r e = ap (λ (x : Repaired). not (holds N w) && not (all_zero x.word)) e

pub seen_as : (cap : List ℕ) (w : ℕ) (r : Repaired) → r ≡ repair_of (word_in cap w) → found_of r.found ≡ is_seen cap w
unfolding is_seen
seen_as cap w r e = ap (λ (x : Repaired). found_of x.found) e ∙ found_checks (word_in cap w)

-- a word that holds an element and passes its checks is none of the three
pub record Plain (N : ℕ) (cap : List ℕ) (w : ℕ) : Type 0 where
  pub not_beyond : is_beyond cap w ≡ false
  pub not_filled : is_filled N cap w ≡ false
  pub not_seen : is_seen cap w ≡ false

pub plain_word : (N : ℕ) (cap : List ℕ) (w : ℕ) → checks_of (word_in cap w) ≡ 0 → holds N w ≡ true → Plain N cap w
unfolding is_beyond is_filled is_seen
plain_word N cap w e h = record { not_beyond = rw (none_kept (word_in cap w) e); not_filled = rw h; not_seen = rw e }

-- word w is taken in
pub word_more : (N : ℕ) (cap : List ℕ) (w : ℕ) (s : WordTally) (b f : Option ℕ) (c : ℕ) → s ≡ words_to N cap w
    → b ≡ sought_of s.beyond w (is_beyond cap w) → f ≡ sought_of s.filler w (is_filled N cap w) → c ≡ s.seen + cond (is_seen cap w) 1 0
    → ◌≡◌ {A = WordTally} (record { beyond = b; filler = f; seen = c }) (words_to N cap (w + 1))
word_more N cap w s b f c e eb ef ec =
    let b' : b ≡ first_found (is_beyond cap) (w + 1) = eb ∙ ap (λ (x : WordTally). sought_of x.beyond w (is_beyond cap w)) e ∙ first_more (is_beyond cap) w in
    let f' : f ≡ first_found (is_filled N cap) (w + 1) = ef ∙ ap (λ (x : WordTally). sought_of x.filler w (is_filled N cap w)) e ∙ first_more (is_filled N cap) w in
    let c' : c ≡ count (is_seen cap) (w + 1) = ec ∙ ap (λ (x : WordTally). x.seen + cond (is_seen cap w) 1 0) e
    ∙ sought_more (is_seen cap w) (count (is_seen cap) w) ∙ sym (count_more (is_seen cap) w) in
    rw (b', f', c')

-- such a word leaves the tally as it is
pub word_passed : (N : ℕ) (cap : List ℕ) (w : ℕ) (s : WordTally) → s ≡ words_to N cap w → Plain N cap w → s ≡ words_to N cap (w + 1)
word_passed N cap w s e p =
    word_more N cap w s s.beyond s.filler s.seen e
    (sym (sought_same s.beyond w) ∙ ap (sought_of s.beyond w) (sym p.not_beyond))
    (sym (sought_same s.filler w) ∙ ap (sought_of s.filler w) (sym p.not_filled))
    (sym (ap (λ (b : Bool). s.seen + cond b 1 0) p.not_seen ∙ add-zero s.seen))

pub words_none : (N : ℕ) (cap : List ℕ) → ◌≡◌ {A = WordTally} (record { beyond = None; filler = None; seen = 0 }) (words_to N cap 0)
unfolding first_found first count
words_none N cap = refl

-- no more words were counted than there are
pub seen_le : (N : ℕ) (cap : List ℕ) (w : ℕ) (s : WordTally) → s ≡ words_to N cap w → s.seen ≤ w
seen_le N cap w s e = rw e (count_le (is_seen cap) w)

-- ---- a word of zeros

pub zero_equal : (n : ℕ) (s : List ℕ) → length s ≡ n → pointwise eqb s (replicate n 0) ≡ all_zero s
unfolding all_zero
zero_equal zero [] h = refl
zero_equal (suc n) (x ∷ s) h = ap (λ (b : Bool). eqb x 0 && b) (zero_equal n s (omega (arith, h)))
zero_equal zero (x ∷ s) h = absurd (omega (arith, h))
zero_equal (suc n) [] h = absurd (omega (arith, h))

pub zero_all : (s : List ℕ) → ((k : ℕ) → k < length s → get_or s k 0 ≡ 0) → true ≡ all_zero s
unfolding all_zero
zero_all [] h = refl
zero_all (x ∷ s) h =
    rw (eq-eqb x 0 (h 0 (omega arith))) (zero_all s (λ k l. h (suc k) (omega arith)))

pub zero_each : (s : List ℕ) → all_zero s ≡ true → (k : ℕ) → get_or s k 0 ≡ 0
unfolding all_zero
zero_each [] h k = refl
zero_each (x ∷ s) h zero = eqb-true x 0 (and_left (eqb x 0) (all_zero s) h)
zero_each (x ∷ s) h (suc k) = zero_each s (and_right (eqb x 0) (all_zero s) h) k
