-- The laws of `buffer_sizes`.
mod Zeros
mod Stated
pub mod Unique
