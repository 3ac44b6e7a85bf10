-- The laws of symbols, for every crate above.
pub mod Amplitudes
pub mod Unique
