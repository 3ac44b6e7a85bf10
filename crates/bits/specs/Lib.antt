-- What the contracts of `bits`, and of every crate above it, are stated in.
pub mod Bits
pub mod Steps
