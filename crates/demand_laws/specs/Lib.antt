-- The customer's demands on captures.
pub mod Demand2
pub mod Demand3
