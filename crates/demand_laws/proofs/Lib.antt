-- The demands, proved of the definitions.
pub mod Allowed
pub mod ReadLaws
pub mod Demand2
pub mod AsCoded
pub mod EditLaws
pub mod Demand3
