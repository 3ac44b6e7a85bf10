-- What the contracts of `gmp_count` are stated in: document 01, "GMP places", the program that reads a count.
pub mod Count
pub mod Steps
