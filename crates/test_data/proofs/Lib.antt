-- The laws of `test_data`.
pub mod Instances
pub mod Steps
pub mod Unique
