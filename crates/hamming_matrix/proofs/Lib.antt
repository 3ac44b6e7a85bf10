-- The laws of H and of sums of its columns, for every crate above.
pub mod Sums
pub mod Matrix
pub mod Unique
