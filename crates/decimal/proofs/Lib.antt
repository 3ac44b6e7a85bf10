-- The laws of `specs/`.
pub mod Reading
pub mod Unique
