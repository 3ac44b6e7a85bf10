-- The customer's demands, as contracts of a client.
pub mod Demands
pub mod Steps
