-- The laws of `specs/`.
pub mod Searching
pub mod Judging
pub mod Pieces
pub mod Places
pub mod Blocks
pub mod Unique
