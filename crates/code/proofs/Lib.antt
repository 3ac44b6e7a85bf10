-- The laws of `specs/`.
pub mod Tails
pub mod Plain
pub mod Coding
pub mod Judging
pub mod Unique
