-- What the contracts of `bits_place` are stated in.
pub mod Steps
