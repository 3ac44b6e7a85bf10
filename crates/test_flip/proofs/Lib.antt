-- The law of `test_flip`: its contract has one answer.
pub mod Unique
