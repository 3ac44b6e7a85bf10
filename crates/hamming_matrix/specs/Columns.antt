-- The parity-check matrix of 001 section 10.5: g(i), and the order in which H has its columns. A column is one number of nine binary
-- digits, the row of s0 on top and the row of ones lowest. Assumes nothing: these are definitions.
use Rattle.std.specs.Prelude.{ℕ, zero, suc, ◌+◌, ◌-◌, ◌*◌, ◌/◌, ◌%◌, ◌^◌, cond, List, [], ◌∷◌, ◌++◌, map, eqb, get_or}

-- "i = 64 s6 + 32 s5 + .. + 2 s1 + s0"
abbrev pub s : ℕ → ℕ → ℕ
s j i = i / 2 ^ j % 2

-- the signs of the formula for s7, on bits
infixl 30 ◌and◌
infixl 20 ◌or◌
abbrev pub ◌and◌ : ℕ → ℕ → ℕ
a and b = a * b

abbrev pub ◌or◌ : ℕ → ℕ → ℕ
a or b = a + b - a * b

abbrev pub neg : ℕ → ℕ
neg a = 1 - a

-- "s7 = (s0 ∧ s2) ∨ (¬s0 ∧ ¬s1 ∧ ¬s2) ∨ (s0 ∧ s1 ∧ ¬s2)"
abbrev pub s7 : ℕ → ℕ
s7 i = (s 0 i and s 2 i) or (neg (s 0 i) and neg (s 1 i) and neg (s 2 i)) or (s 0 i and s 1 i and neg (s 2 i))

-- g(i), read from the top: s0, s1, .., s6, s7, 1
abbrev pub g : ℕ → ℕ
g i = 256 * s 0 i + 128 * s 1 i + 64 * s 2 i + 32 * s 3 i + 16 * s 4 i + 8 * s 5 i + 4 * s 6 i + 2 * s7 i + 1

-- n numbers from a on
abbrev pub count_from : ℕ → ℕ → List ℕ
count_from a zero = []
count_from a (suc n) = a ∷ count_from (suc a) n

-- "g(a):g(b)", the arguments a, a + 1, .., b
infixl 20 ◌to◌
abbrev pub ◌to◌ : ℕ → ℕ → List ℕ
a to b = count_from a (suc b - a)

-- the arguments of g in the order of H: the 119 of the element, and the nine of the checks
abbrev pub element_order : List ℕ
element_order = (0 to 62) ++ (64 to 94) ++ (96 to 110) ++ (112 to 118) ++ (120 ∷ 122 ∷ 124 ∷ [])

abbrev pub check_order : List ℕ
check_order = (63 ∷ 95 ∷ 111 ∷ 119 ∷ 121 ∷ 123 ∷ []) ++ (125 to 127)

-- H
unfoldable pub columns : List ℕ
columns = map g (element_order ++ check_order)

-- column i of H
unfoldable pub column_of : ℕ → ℕ
column_of i = get_or columns i 0

-- the place of the first x in a list; the list's length where there is none
unfoldable pub place_in : List ℕ → ℕ → ℕ
place_in [] x = zero
place_in (y ∷ l) x = cond (eqb y x) zero (suc (place_in l x))

-- the bit whose column is c; 128 where no column is
unfoldable pub position_of : ℕ → ℕ
position_of c = place_in columns c
