-- What the contracts of `scrambler`, and of every crate above it, are stated in.
pub mod Scrambler
pub mod Steps
