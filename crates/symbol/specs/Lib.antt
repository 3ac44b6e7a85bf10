-- What the contracts of `symbol` are stated in.
pub mod Levels
