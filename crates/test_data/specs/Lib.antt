-- What the contracts of `test_data` are stated in.
pub mod Generator
pub mod Digest
