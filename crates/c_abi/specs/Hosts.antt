-- A run as C is handed it: the document's numbers, field by field. Assumes nothing: these are definitions.
use Rattle.gmp.specs.Answers.{Told}
use Rattle.c_abi.specs.declared.HostRun.{HostRun}

abbrev pub hosted : Told → HostRun
hosted t = record { number = t.number; kind = t.kind; last = t.last }
