-- The laws of `specs/`, for every crate above.
pub mod Linear
pub mod Divide
pub mod Powers
pub mod Changes
pub mod Bytewise
pub mod Unique
