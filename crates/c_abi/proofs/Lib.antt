-- That each contract has one answer.
pub mod Unique
