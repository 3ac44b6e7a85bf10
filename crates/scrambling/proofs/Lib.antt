-- The laws of `specs/`.
pub mod Adding
pub mod Unique
