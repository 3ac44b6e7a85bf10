-- What the contracts of `gmp_window` are stated in: document 01, "GMP places".
pub mod Windows
pub mod Answers
pub mod Steps
