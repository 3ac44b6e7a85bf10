-- Document 01, "Numbers handed back": "If several apply, the smallest number, then the smallest place. .. A refusal .. count is 0."
-- A call's table is the list of its rows, in the order of their numbers. Assumes nothing: these are definitions.
use Rattle.std.specs.Prelude.{ℕ, suc, ◌≤◌, ◌<◌, Bool, true, false, cond, not, ◌&&◌, ◌||◌, ◌≡◌, ◌⊎◌, List, [], ◌∷◌, ltb, eqb, length}
use Rattle.prelude.specs.Loops.{first}
use Rattle.answer.specs.Numbers.{all_done}
use Rattle.answer.specs.declared.Answer.{Answer}

-- the two kinds of answer
abbrev pub done : ℕ → Answer
done c = record { number = all_done; place = 0; count = c }

abbrev pub refused : ℕ → ℕ → Answer
refused k p = record { number = k; place = p; count = 0 }

-- a row of the table: its number, and where it holds. `whole`: as a whole, or not; `buffers`: of each lent buffer, in the order in which
-- document 01 names them, whether it is at fault; `each`: at each of n places whether it holds there
pub data Row : Type 0 where
  whole : ℕ → Bool → Row
  buffers : ℕ → List Bool → Row
  each : ℕ → ℕ → (ℕ → Bool) → Row

-- a lent buffer has another length than the stated one
abbrev pub wrong : ℕ → ℕ → Bool
wrong stated long = not (eqb long stated)

-- the place of numbers 2 and 3 where lent buffer i, counted from 1, is the first at fault. Document 02, M-103: its position
unfoldable pub buffer_place : ℕ → ℕ
buffer_place i = i

-- whether one of the buffers from i on is at fault and has its place at p
unfoldable pub fault_at : List Bool → ℕ → ℕ → Bool
fault_at [] i p = false
fault_at (b ∷ bs) i p = b && eqb p (buffer_place i) || fault_at bs (suc i) p

-- a row's number, how many places it looks at, and whether it holds at one of them
unfoldable pub row_number : Row → ℕ
row_number (whole k b) = k
row_number (buffers k bs) = k
row_number (each k n h) = k

unfoldable pub places_of : Row → ℕ
places_of (whole k b) = 1
places_of (buffers k bs) = suc (length bs)
places_of (each k n h) = n

unfoldable pub holds_at : Row → ℕ → Bool
holds_at (whole k b) p = b
holds_at (buffers k bs) p = fault_at bs 1 p
holds_at (each k n h) p = h p

-- the first place at which a row holds, or the number of its places
unfoldable pub first_of : Row → ℕ
first_of r = first (holds_at r) (places_of r)

-- the first row that holds anywhere, at its first place; where none does, the call is done, with the count c
unfoldable pub answer_of : List Row → ℕ → Answer
answer_of [] c = done c
answer_of (r ∷ rows) c = cond (ltb (first_of r) (places_of r)) (refused (row_number r) (first_of r)) (answer_of rows c)

-- ---- what the rule means, without the order of a list

-- of lent buffers that are counted from i on, buffer p is the first at fault. Document 02, M-103
pub data FirstFault : ℕ → List Bool → ℕ → Type 0 where
  here : {i : ℕ} {bs : List Bool} → FirstFault i (true ∷ bs) i
  later : {i p : ℕ} {bs : List Bool} → FirstFault (suc i) bs p → FirstFault i (false ∷ bs) p

-- row r has number k and holds at place p
pub record HoldsAt (r : Row) (k p : ℕ) : Type 0 where
  pub number_is : row_number r ≡ k
  pub within : p < places_of r
  pub holds_there : holds_at r p ≡ true

-- some row of the table has number k and holds at place p
abbrev pub Applies : List Row → ℕ → ℕ → Type 0
Applies [] k p = ⊥
Applies (r ∷ rows) k p = HoldsAt r k p ⊎ Applies rows k p

-- number k at place p is not after number j at place q: a smaller number, or the same number and no larger place
pub data NotAfter (k p j q : ℕ) : Type 0 where
  number : k < j → NotAfter k p j q
  place : k ≡ j → p ≤ q → NotAfter k p j q

-- number k applies at place p, and nothing smaller applies
pub record Least (rows : List Row) (k p : ℕ) : Type 0 where
  pub applies : Applies rows k p
  pub least : (j q : ℕ) → Applies rows j q → NotAfter k p j q

-- the rows' numbers rise, from above a
unfoldable pub rising : ℕ → List Row → Bool
rising a [] = true
rising a (r ∷ rows) = ltb a (row_number r) && rising (row_number r) rows
