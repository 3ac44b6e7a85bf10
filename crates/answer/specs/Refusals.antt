-- Why a call is refused, as a value, and the three numbers that document 01 asks for. Assumes nothing: these are definitions.
use Rattle.std.specs.Prelude.{ℕ, Bool, cond, Option, Some, None, Result, Ok, Err}
use Rattle.answer.specs.Numbers.{outside_set, wrong_length, spare_bit, beyond_repair, filler_not_zero, wrong_mbas, wrong_crc, pad_not_zero}
use Rattle.answer.specs.Numbers.{listed_fails, not_archive, bad_entry, misplaced}
use Rattle.answer.specs.Rows.{done, refused}
use Rattle.answer.specs.declared.Answer.{Answer}
use Rattle.answer.specs.declared.refusal.Refusal.{Refusal}
use Rattle.answer.specs.declared.refusal.Refusal.TheVariants.{OutsideSet, WrongLength, SpareBit, BeyondRepair, FillerNotZero, WrongMbas, WrongCrc, PadNotZero}
use Rattle.answer.specs.declared.refusal.Refusal.TheVariants.{ListedFails, NotArchive, BadEntry, Misplaced}
use Rattle.answer.specs.declared.refusal.Refused.{Refused}

-- the table's number
abbrev pub refusal_number : Refusal → ℕ
refusal_number OutsideSet = outside_set
refusal_number WrongLength = wrong_length
refusal_number SpareBit = spare_bit
refusal_number BeyondRepair = beyond_repair
refusal_number FillerNotZero = filler_not_zero
refusal_number WrongMbas = wrong_mbas
refusal_number WrongCrc = wrong_crc
refusal_number PadNotZero = pad_not_zero
refusal_number ListedFails = listed_fails
refusal_number NotArchive = not_archive
refusal_number BadEntry = bad_entry
refusal_number Misplaced = misplaced

abbrev pub refused_at : Refusal → ℕ → Refused
refused_at r p = record { refusal = r; place = p }

-- one test: where it holds the call is refused, else it goes on
abbrev pub tested : Bool → Refused → Result (Unit {0}) Refused
tested b r = cond b (Err r) (Ok tt)

-- one search: it is refused at the place that was found, else it goes on
abbrev pub found_at : Refusal → Option ℕ → Result (Unit {0}) Refused
found_at r (Some p) = Err (refused_at r p)
found_at r None = Ok tt

-- the numbers that a result stands for: done with its count, or refused by a number at a place
abbrev pub answered : Result ℕ Refused → Answer
answered (Ok c) = done c
answered (Err r) = refused (refusal_number r.refusal) r.place
