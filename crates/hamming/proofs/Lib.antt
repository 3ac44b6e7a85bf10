-- The laws of words, checks and repair, for every crate above.
pub mod Flipping
pub mod Words
pub mod Repairs
pub mod ByBytes
pub mod Unique
