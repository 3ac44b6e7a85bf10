-- What `bits_copy` promises, once.
pub mod Unique
