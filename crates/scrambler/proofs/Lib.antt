-- The laws of `specs/`, for every crate above.
pub mod Rule
pub mod Stepping
pub mod Strides
pub mod Period
pub mod Unique
