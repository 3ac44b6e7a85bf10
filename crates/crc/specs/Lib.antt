-- What the contracts of `crc`, and of every crate above it, are stated in.
pub mod Remainder
pub mod Division
pub mod Crc
pub mod Steps
