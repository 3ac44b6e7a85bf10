-- The laws of `specs/`.
pub mod Touching
pub mod Picking
pub mod Listing
pub mod Remaking
pub mod Changing
pub mod Passes
pub mod Answers
pub mod Promises
