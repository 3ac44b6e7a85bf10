-- The laws of `specs/`.
pub mod Allowed
pub mod Judging
pub mod Spares
pub mod Exactly
pub mod Unique
