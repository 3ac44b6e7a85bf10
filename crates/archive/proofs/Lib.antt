-- The laws of a call that refuses, and that each contract has one answer.
pub mod Beginning
pub mod Unique
