-- What the contracts of `hamming_table` are stated in: the code's steps by lent tables.
pub mod Steps
