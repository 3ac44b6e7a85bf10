-- How code comes to a table's answer: it tests in turn. The laws are those of proofs/Turns.antt. Assumes nothing: these are definitions.
use Rattle.std.specs.Prelude.{ℕ, suc, Bool, false, cond, ◌≡◌, List, [], ◌∷◌, Option, Some, None, ltb}
use Rattle.prelude.specs.Loops.{first}
use Rattle.answer.specs.Rows.{Row, whole, buffers, each, refused, buffer_place}
use Rattle.answer.specs.declared.Answer.{Answer}

-- the buffers from i on one by one, and what comes next
unfoldable pub faults_then : ℕ → List Bool → ℕ → Answer → Answer
faults_then k [] i next = next
faults_then k (b ∷ bs) i next = cond b (refused k (buffer_place i)) (faults_then k bs (suc i) next)

unfoldable pub row_then : Row → Answer → Answer
row_then (whole k b) next = cond b (refused k 0) next
row_then (buffers k bs) next = faults_then k bs 1 next
row_then (each k n h) next = cond (ltb (first h n) n) (refused k (first h n)) next

-- the rows in turn: the first that holds refuses; where none does, what comes next answers
unfoldable pub in_turn : List Row → Answer → Answer
in_turn [] next = next
in_turn (r ∷ rows) next = row_then r (in_turn rows next)

-- a search that code makes: the first of n places that p picks, if one is picked
unfoldable pub first_found : (ℕ → Bool) → ℕ → Option ℕ
first_found p n = cond (ltb (first p n) n) (Some (first p n)) None

-- no row holds, test by test: what a call that goes on has shown
unfoldable pub NoFault : List Bool → Type 0
NoFault [] = Unit {0}
NoFault (b ∷ bs) = (b ≡ false) × NoFault bs

unfoldable pub RowPassed : Row → Type 0
RowPassed (whole k b) = b ≡ false
RowPassed (buffers k bs) = NoFault bs
RowPassed (each k n h) = ltb (first h n) n ≡ false

unfoldable pub Passed : List Row → Type 0
Passed [] = Unit {0}
Passed (r ∷ rows) = RowPassed r × Passed rows
