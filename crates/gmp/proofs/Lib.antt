-- The laws of `specs/`.
pub mod Allowed
pub mod Residues
pub mod Stretches
pub mod Ends
pub mod Asked
pub mod Floor
pub mod Counts
pub mod Exactly
pub mod Unique
