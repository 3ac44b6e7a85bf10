-- What the contracts of `hamming_matrix` are stated in.
pub mod Columns
pub mod Sums
pub mod Steps
