-- What every entry point hands back, and the rule by which it is chosen.
pub mod Numbers
pub mod Rows
pub mod Refusals
pub mod Outcomes
pub mod Demand1
pub mod Steps
