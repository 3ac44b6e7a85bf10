-- Document 01, "GMP places" (ITU-T G.709 Annex D): the places of a four-frame envelope and their kinds. Assumes nothing: these are definitions.
use Rattle.std.specs.Prelude.{ℕ, ◌+◌, ◌-◌, ◌*◌, ◌%◌, Bool, cond, ◌||◌, ltb}
use Rattle.prelude.specs.Loops.{count}
use Rattle.sizes.specs.Sizes.{places}
use Rattle.gmp.specs.declared.told.Kind.{Kind}
use Rattle.gmp.specs.declared.told.Kind.TheVariants.{Stuff, Data}

-- "For a count C in 0..10,220, place j in 1..10,220 is data if (j·C) mod P < C, else stuff"
unfoldable pub is_data : ℕ → ℕ → Bool
is_data c j = ltb (j * c % places) c

-- the document's number for each kind
abbrev pub kind_number : Kind → ℕ
kind_number Stuff = 0
kind_number Data = 1

-- the kind of place j, by that number
abbrev pub kind_at : ℕ → ℕ → ℕ
kind_at c j = cond (is_data c j) (kind_number Data) (kind_number Stuff)

-- how many of the n places from f on are data, place by place; from place 1 on that is floor(n·C / P): `floor` of proofs/Floor.antt
unfoldable pub data_from : ℕ → ℕ → ℕ → ℕ
data_from c f n = count (λ k. is_data c (f + k)) n

-- the count is outside its set, or the n places from f on are not all places
abbrev pub outside_stretch : ℕ → ℕ → ℕ → Bool
outside_stretch c f n = ltb places c || (ltb f 1 || ltb places (f + n - 1))
