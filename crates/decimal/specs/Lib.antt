-- Numbers in decimal.
pub mod Digits
pub mod Steps
