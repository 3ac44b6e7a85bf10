-- How the code goes: two places, or two groups, at a time, since together they are whole bytes. Assumes nothing: these are definitions.
use Rattle.std.specs.Prelude.{ℕ, ◌+◌, ◌-◌, ◌*◌, ◌≤◌, cond, ◌≡◌, Option, Some, None, List, ltb}
use Rattle.std.specs.Bool.{then_some}
use Rattle.gmp.specs.Places.{data_from}
use Rattle.bits.specs.Bits.{bit_at}
use Rattle.sizes.specs.Sizes.{places, group_bits}
use Rattle.answer.specs.Numbers.{all_done}
use Rattle.answer.specs.declared.Answer.{Answer}
use Rattle.gmp_map.specs.Groups.{group_place, Mapped, Unmapped}

-- bit i of a piece, which stands at a bit of s, or zero where the piece is not there
abbrev pub piece : List ℕ → Option ℕ → ℕ → ℕ
piece s (Some a) i = bit_at s (a + i)
piece s None i = 0

-- a piece stands no further than the places and the groups of an envelope go
abbrev pub Placed : Option ℕ → Type 0
Placed (Some a) = a ≤ group_bits * places
Placed None = Unit {0}

-- bit i of two pieces of s
unfoldable pub pair_bit : List ℕ → Option ℕ → Option ℕ → ℕ → ℕ
pair_bit s a b i = cond (ltb i group_bits) (piece s a i) (piece s b (i - group_bits))

-- r is the piece of data group q
pub record GroupAt (c f n q : ℕ) (r : Option ℕ) : Type 0 where
  pub is : r ≡ then_some (ltb q (data_from c f n)) (group_bits * group_place c f n q)
  pub placed : Placed r

-- mapping, and then unmapping where it was done: the answer r, and what is left in both buffers
pub data MapUnmap (c f n : ℕ) (g w b : List ℕ) : Answer → List ℕ × List ℕ → Type 0 where
  refused_first : {r : Answer} {out : List ℕ} → Mapped c f n g w r out → (r.number ≡ all_done → ⊥) → MapUnmap c f n g w b r (out, b)
  went_on : {m r : Answer} {out back : List ℕ} → Mapped c f n g w m out → m.number ≡ all_done → Unmapped c f n out b r back
      → MapUnmap c f n g w b r (out, back)
