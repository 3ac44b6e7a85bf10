-- The laws of a part request, and that each contract has one answer.
pub mod Parting
pub mod Unique
