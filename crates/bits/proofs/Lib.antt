-- The laws of `specs/`, for every crate above.
pub mod Numbers
pub mod Packing
pub mod Xor
pub mod Unique
