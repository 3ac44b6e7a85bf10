-- What the contracts of `hamming` are stated in.
pub mod Code
pub mod Repair
pub mod Steps
