-- What the contracts of `test_flip` are stated in.
pub mod Flipped
