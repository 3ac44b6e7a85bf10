-- What the generic contracts come to for bytes and for numbers. Assumes nothing.
use Prim.Native.Nat.{ℕ, zero, suc, ◌/◌, ◌%◌}
use mathlib.Core.Path.{◌≡◌, refl, ap, ◌∙◌}
use mathlib.Core.List.{List, [], ◌∷◌}
use native.Mathlib.Omega.{arith}
use lib.ListN.{length, get_or}
use Rattle.std.specs.List.{fold}
use Rattle.std.specs.Int.{w64, to_be_bytes}
use Rattle.prelude.specs.Loops.{upto}
use Rattle.test_data.specs.Generator.{top_byte, made_by, bytes_from, numbers_from}
use Rattle.test_data.specs.Digest.{basis, digest_with, taken_at, taken_part, taken_number, taken_number_at, digest_of, digest_of_numbers}

-- ---- what a buffer is filled with

pub made_bytes : (x k : ℕ) → made_by top_byte x k ≡ bytes_from x k
unfolding made_by top_byte bytes_from
made_bytes x k = refl

pub made_numbers : (x k : ℕ) → made_by (λ n. n) x k ≡ numbers_from x k
unfolding made_by numbers_from
made_numbers x k = refl

-- ---- what is digested

-- the first turn taken out
first_turn : {A : Type 0} (g : ℕ → A → A) (a : A) (n : ℕ) → upto (λ k. g (suc k)) (g 0 a) n ≡ upto g a (suc n)
unfolding upto
first_turn g a zero = refl
first_turn g a (suc n) = ap (g (suc n)) (first_turn g a n)

-- a fold over a list is one over its places
by_places : (f : ℕ → ℕ → ℕ) (h : ℕ) (s : List ℕ) → fold f h s ≡ upto (λ k a. f a (get_or s k 0)) h (length s)
unfolding upto
by_places f h [] = refl
by_places f h (x ∷ s) = by_places f (f h x) s ∙ first_turn (λ k a. f a (get_or (x ∷ s) k 0)) h (length s)

pub bytes_digest : (s : List ℕ) → fold digest_with basis s ≡ digest_of s
unfolding digest_of taken_at
bytes_digest s = by_places digest_with basis s

pub numbers_digest : (s : List ℕ) → fold taken_number basis s ≡ digest_of_numbers s
unfolding digest_of_numbers taken_number_at
numbers_digest s = by_places taken_number basis s

-- a number is taken in as its eight bytes
pub eight_bytes : (h x : ℕ) → fold digest_with h (to_be_bytes w64 x) ≡ taken_number h x
unfolding taken_number taken_part upto
eight_bytes h x = let whole : x ≡ x / 1 = omega arith in
    ap (λ (n : ℕ). digest_with (upto (taken_part x) h 7) (n % 256)) whole
