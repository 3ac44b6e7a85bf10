-- The laws of `specs/`.
pub mod Stepping
pub mod Lines
pub mod Whole
pub mod Unique
