-- The laws of the order of bytes, and that each public contract has one answer.
pub mod OrderLaws
pub mod Groups
pub mod Unique
