-- The scrambler, x^16+x^12+x^3+x+1 (document 01, "One super frame"; 001 section 10.3): a bit sequence o with o(0), .., o(15) all 1 and
-- o(n) = o(n-1) + o(n-3) + o(n-12) + o(n-16) mod 2, started anew at each super frame. Assumes nothing: these are definitions.
use Rattle.std.specs.Prelude.{ℕ, zero, suc, ◌+◌, ◌%◌, List, ◌∷◌, get_or, replicate}

-- the next bit in front of those before it, the newest first: h has o(n-1), o(n-2), ..
unfoldable pub push : List ℕ → List ℕ
push h = ((get_or h 0 0 + get_or h 2 0 + get_or h 11 0 + get_or h 15 0) % 2) ∷ h

-- o(n+15), .., o(0)
unfoldable pub hist : ℕ → List ℕ
hist zero = replicate 16 1
hist (suc n) = push (hist n)

-- the bit that is added to bit n of a super frame. That this is the document's sequence, and the only one: `o_first`, `o_step` and `only_o` of
-- proofs/Rule.antt
unfoldable pub o : ℕ → ℕ
o n = get_or (hist n) 15 0
