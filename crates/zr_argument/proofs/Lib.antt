-- The laws of `zr_argument`.
pub mod Digits
pub mod Unique
