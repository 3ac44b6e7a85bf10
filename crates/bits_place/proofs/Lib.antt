-- The laws of `specs/`.
pub mod Masking
pub mod Unique
