-- `bits_place::room_byte` meets its contract. Assumes nothing.
use native.Mathlib.Omega.{arith}
use borrow.Author.Tests.{lt-ltb, le-ltb}
use Rattle.sizes.specs.Sizes.{word_bytes}
use Rattle.bits_place.specs.Steps.{room_byte}
use Rattle.bits_place.proofs.room_byte.Goals as goal

pub returns-then-k-lt-WORD_BYTES : goal.returns-then-k-lt-WORD_BYTES
unfolding room_byte
returns-then-k-lt-WORD_BYTES c = rw (lt-ltb c.args.k word_bytes c.if-k-lt-WORD_BYTES.true)

pub overflow_mul-k : goal.overflow_mul-k
overflow_mul-k c = record { fits = omega arith }

pub returns : goal.returns
unfolding room_byte
returns c = let a = c.args in
    rw (le-ltb a.k word_bytes c.if-k-lt-WORD_BYTES.false) c.byte_from.ensures
