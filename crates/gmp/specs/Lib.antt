-- What the contracts of `gmp` are stated in: document 01, "GMP places".
pub mod Places
pub mod Runs
pub mod Answers
pub mod Steps
