-- Document 02, M-100: "a kind byte (1 information, 2 parity, 3 capture)". Assumes nothing: these are definitions.
use Rattle.std.specs.Prelude.{ℕ, cond, Result, Ok, Err, eqb}
use Rattle.archive.specs.declared.kind.Kind.{Kind}
use Rattle.archive.specs.declared.kind.Kind.TheVariants.{Information, Parity, Capture}
use Rattle.archive.specs.declared.kind.UnknownKind.{UnknownKind}

-- the number of a kind
abbrev pub number_of_kind : Kind → ℕ
number_of_kind Information = 1
number_of_kind Parity = 2
number_of_kind Capture = 3

-- the kind that has a number
abbrev pub kind_of : ℕ → Result Kind UnknownKind
kind_of n = cond (eqb n 1) (Ok Information) (cond (eqb n 2) (Ok Parity) (cond (eqb n 3) (Ok Capture) (Err (record { n = n }))))
