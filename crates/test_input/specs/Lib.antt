-- What the programs of captures start from.
pub mod Inputs
