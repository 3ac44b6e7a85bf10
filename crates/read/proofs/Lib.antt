-- What `read` promises, once.
pub mod Unique
