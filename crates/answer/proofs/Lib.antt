-- The laws of `specs/`.
pub mod Meets
pub mod Table
pub mod Turns
pub mod Results
pub mod Buffers
pub mod Unique
