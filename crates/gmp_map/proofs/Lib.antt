-- The laws of `specs/`.
pub mod Pairs
pub mod Filling
pub mod Ranks
pub mod RoundTrip
pub mod Exactly
pub mod Unique
