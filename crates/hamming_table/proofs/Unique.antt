-- Each public contract has one answer: two results that meet it are the same. `Post` is the contract's own `ensures`, so a weaker contract would not
-- pass here. Assumes nothing.
use mathlib.Core.Path.{◌≡◌}
use Rattle.prelude.proofs.Common.{only}
use Rattle.hamming_table.proofs.byte_table.Reads as byte-table
use Rattle.hamming_table.proofs.checks_by.Reads as checks-by
use Rattle.hamming_table.proofs.encode_by.Reads as encode-by
use Rattle.hamming_table.proofs.repair_known.Reads as repair-known

pub one_byte_table : (κs : _) (a : _) (x y : _) (s t : _) → byte-table.Post κs a x s → byte-table.Post κs a y t → x ≡ y
one_byte_table κs a x y s t p q = only p q

pub one_checks_by : (κs : _) (a : _) (x y : _) (s t : _) → checks-by.Post κs a x s → checks-by.Post κs a y t → x ≡ y
one_checks_by κs a x y s t p q = only p q

pub one_encode_by : (κs : _) (a : _) (x y : _) (s t : _) → encode-by.Post κs a x s → encode-by.Post κs a y t → x ≡ y
one_encode_by κs a x y s t p q = only p q

pub one_repair_known : (κs : _) (a : _) (x y : _) (s t : _) → repair-known.Post κs a x s → repair-known.Post κs a y t → x ≡ y
one_repair_known κs a x y s t p q = only p q
